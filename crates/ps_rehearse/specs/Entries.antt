-- The hosts of a rehearsal, and the entries that its run makes.
use Rattle.std.specs.Prelude.{◌≡◌, ℕ, ◌+◌, Bool, true, false, ◌||◌, List, [], ◌∷◌, codes, drop}
use Rattle.std.specs.List.{AllByRecursion}
use Rattle.std.specs.Str.{bytes_eq}
use Rattle.ps_types.specs.declared.entry.Entry.{Entry}
use Rattle.ps_types.specs.declared.entry.Entry.TheVariants.{Boot, Change, Handed, Gone, Base}
use Rattle.ps_rehearse_lines.specs.Counted.{one_if}
use Rattle.ps_rehearse.specs.declared.entries.Made.{Made}

abbrev pub the_service : List ℕ
the_service = codes "pubsub.example"

abbrev pub first_host : List ℕ
first_host = codes "a.example"

abbrev pub second_host : List ℕ
second_host = codes "b.example"

abbrev pub the_hosts : List (List ℕ)
the_hosts = first_host ∷ second_host ∷ []

abbrev pub is_ours : List ℕ → Bool
is_ours host = bytes_eq host first_host || bytes_eq host second_host

-- what the lines of the hosts make, the record of a notice to one of their addresses, and that their callers are gone
abbrev pub is_made : Entry → Bool
is_made (Boot service) = false
is_made (Change host line moment t) = is_ours host
is_made (Handed to) = is_ours to.host
is_made (Gone host) = is_ours host
is_made (Base row) = false

abbrev pub AreMade : List Entry → Type 0
AreMade es = AllByRecursion (λ e. is_made e ≡ true) es

abbrev pub is_change : Entry → Bool
is_change (Boot service) = false
is_change (Change host line moment t) = true
is_change (Handed to) = false
is_change (Gone host) = false
is_change (Base row) = false

-- how many Changes
abbrev pub changes_in : List Entry → ℕ
changes_in [] = 0
changes_in (e ∷ es) = one_if (is_change e) + changes_in es

abbrev pub is_handed : Entry → Bool
is_handed (Boot service) = false
is_handed (Change host line moment t) = false
is_handed (Handed to) = true
is_handed (Gone host) = false
is_handed (Base row) = false

-- how many records of notices
abbrev pub handed_in : List Entry → ℕ
handed_in [] = 0
handed_in (e ∷ es) = one_if (is_handed e) + handed_in es

-- behind the first entry stand such entries, with so many Changes and so many records of notices
pub record HasMade (es : List Entry) (m : Made) : Type 0 where
  pub made : AreMade (drop 1 es)
  pub commits : m.commits ≡ changes_in (drop 1 es)
  pub handed : m.handed ≡ handed_in (drop 1 es)
