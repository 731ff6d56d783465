-- The law of a rehearsal, as it is read.
use Rattle.std.specs.Prelude.{◌≡◌, ℕ, ◌≤◌}
use Rattle.ps_rehearse_laws.specs.Rehearsal.{Numbers as Reported, rehearsal}
use Rattle.ps_rehearse.specs.Rehearsed.{Rehearsed}
use Rattle.ps_rehearse.specs.declared.numbers.Numbers.{Numbers}

-- the five are the same
pub record AreNumbers (n : Numbers) (m : Reported) : Type 0 where
  pub stanzas : n.stanzas ≡ m.stanzas
  pub commits : n.commits ≡ m.commits
  pub results : n.results ≡ m.results
  pub errors : n.errors ≡ m.errors
  pub notices : n.notices ≡ m.notices

-- what is promised of a rehearsal's numbers makes them those of its stanzas one after the other
abbrev pub EachRunHasTheNumbers : Type 0
EachRunHasTheNumbers = (seed count : ℕ) → count ≤ 100000 → (n : Numbers) → Rehearsed seed count n → AreNumbers n (rehearsal seed count)
