-- A mirror that took all lines of a source.
use Rattle.std.specs.Prelude.{◌≡◌, ℕ, Bool, nat_le, List, [], length, filter, Option, Some, None}
use Rattle.ps_types.specs.Lines.{lines_of}
use Rattle.ps_wire.specs.declared.lines.NextLineRefusal.{NextLineRefusal}
use Rattle.ps_wire.specs.declared.lines.NextLineRefusal.TheVariants.{Memory}
use Rattle.ps_mirror.specs.Copy.{copy_from}
use Rattle.ps_mirror.specs.Mirrored.{Mirrored}

-- a line that is longer tells nothing
abbrev pub is_short : List ℕ → Bool
is_short line = nat_le (length line) 262144

-- the mirror after these lines
abbrev pub all_taken : List (List ℕ) → Mirrored → Mirrored
all_taken lines m = record { node = m.node; who = m.who; max = m.max; copy = copy_from m.node m.who m.max m.copy (filter is_short lines) }

-- of a source that tells its bytes all lines were taken
abbrev pub HasTaken : Option (List ℕ) → Mirrored → Mirrored → Type 0
HasTaken None m now = Unit {0}
HasTaken (Some bytes) m now = now ≡ all_taken (lines_of bytes) m

-- a mirror that takes what is still to come holds what one would that took all
abbrev pub IsOnTheWay : Option (List ℕ) → Mirrored → Option (List ℕ) → Mirrored → Type 0
IsOnTheWay None m rest now = Unit {0}
IsOnTheWay (Some bytes) m None now = ⊥
IsOnTheWay (Some bytes) m (Some rest) now = all_taken (lines_of rest) now ≡ all_taken (lines_of bytes) m

-- nothing is left of the bytes that a source told
abbrev pub IsReadWhole : Option (List ℕ) → Option (List ℕ) → Type 0
IsReadWhole None left = Unit {0}
IsReadWhole (Some bytes) left = left ≡ Some []

-- why lines are no longer taken: for what stopped their reader, or for want of memory where nothing did
abbrev pub IsCause : Option NextLineRefusal → NextLineRefusal → Type 0
IsCause None why = why ≡ Memory
IsCause (Some cause) why = why ≡ cause
