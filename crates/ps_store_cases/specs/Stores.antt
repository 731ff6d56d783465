-- The bytes of small stores: which list they have, or where they are damaged.
use Rattle.std.specs.Prelude.{ℕ, List, [], ◌∷◌, ◌++◌, Some, drop, take, codes}
use Rattle.ps_types.specs.declared.entry.Entry.{Entry}
use Rattle.ps_types.specs.declared.entry.Entry.TheVariants.{Change, Gone}
use Rattle.ps_types.specs.declared.jid.Jid.{Jid}
use Rattle.ps_model_cases.specs.Case.{boot}
use Rattle.ps_model_cases.specs.LineCases.{first_bytes, first_tree}

-- ---- one boot

-- the digits that tell the versions
abbrev pub one : ℕ
one = 49

abbrev pub two : ℕ
two = 50

-- a header with that version, and what follows it
abbrev pub store_of : ℕ → List ℕ → List ℕ
store_of version rest = codes "PUBSUBJ" ++ version ∷ rest

-- an open gate, a length below 256, and what follows it
abbrev pub framed : ℕ → List ℕ → List ℕ
framed length rest = 1 ∷ 0 ∷ 0 ∷ 0 ∷ length ∷ rest

-- a first byte of 0 is a boot's
abbrev pub boot_bytes : ℕ → List ℕ
boot_bytes tag = tag ∷ 0 ∷ 14 ∷ codes "pubsub.example"

-- 31 bytes, closed by the digit 7
abbrev pub store : ℕ → ℕ → List ℕ
store version tag = store_of version (framed 17 (boot_bytes tag ++ codes "7"))

abbrev pub one_boot : List Entry
one_boot = boot ∷ []

-- ---- damaged ones

-- another first byte
abbrev pub other_header : List ℕ
other_header = 81 ∷ drop 1 (store one 0)

-- cut off, and with another length
abbrev pub cut : List ℕ
cut = take 30 (store one 0)

abbrev pub with_length : ℕ → List ℕ
with_length length = store_of one (framed length (boot_bytes 0 ++ codes "7"))

-- the end of a stream before any boot
abbrev pub end_of_stream : Entry
end_of_stream = Gone (codes "a.example")

abbrev pub gone_first : List ℕ
gone_first = store_of one (framed 12 (3 ∷ 0 ∷ 9 ∷ codes "a.example7"))

-- a notice that is recorded as handed and was never made
abbrev pub nobody : Jid
nobody = record { local = codes "x"; host = codes "a.example"; resource = [] }

abbrev pub handed_none : List ℕ
handed_none = store_of one (framed 17 (boot_bytes 0 ++ framed 14 (2 ∷ 0 ∷ 11 ∷ codes "x@a.example" ++ 0 ∷ [])))

-- ---- a moment

-- 1000000000 in eight bytes
abbrev pub moment_bytes : List ℕ
moment_bytes = 0 ∷ 0 ∷ 0 ∷ 0 ∷ 59 ∷ 154 ∷ 202 ∷ 0 ∷ []

abbrev pub change_bytes : List ℕ
change_bytes = 4 ∷ 0 ∷ 9 ∷ codes "a.example" ++ (0 ∷ 0 ∷ 0 ∷ 0 ∷ 0 ∷ 0 ∷ 0 ∷ 1 ∷ moment_bytes) ++ 0 ∷ 0 ∷ 0 ∷ 188 ∷ first_bytes

-- one boot, and behind it a change with a moment, which version 1 hasn't
abbrev pub with_moment : ℕ → List ℕ
with_moment version = store_of version (framed 17 (boot_bytes 0 ++ framed 220 (change_bytes ++ 0 ∷ [])))

abbrev pub change : Entry
change = Change (codes "a.example") 1 (Some 1000000000) first_tree
