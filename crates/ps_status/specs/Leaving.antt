-- What a command leaves as it was.
use Rattle.std.specs.Prelude.{◌≡◌, ◌≢◌, ℕ, List, [], ◌∷◌}
use Rattle.ps_io.specs.Held.{Same, SameLeft}
use Rattle.ps_status.specs.Outside.{Outside}

-- the names of the sources, the sinks and the stores that a command may change
pub record Touched : Type 0 where
  pub sources : List (List ℕ)
  pub sinks : List (List ℕ)
  pub stores : List (List ℕ)

-- the name is another than each of these
abbrev pub IsNone : List ℕ → List (List ℕ) → Type 0
IsNone name [] = Unit {0}
IsNone name (one ∷ more) = (name ≢ one) × IsNone name more

-- nothing else has changed, and no clock
pub record LeavesBut (t : Touched) (old new : Outside) (lefts lefts_now : List ℕ → ℕ → List ℕ → Type 0) : Type 0 where
  pub other_sources : (n : List ℕ) → IsNone n t.sources → new.sources n ≡ old.sources n
  pub other_sinks : (n : List ℕ) → IsNone n t.sinks → new.sinks n ≡ old.sinks n
  pub other_stores : (n : List ℕ) → IsNone n t.stores → new.stores n ≡ old.stores n
  pub other_lefts : (n : List ℕ) → IsNone n t.stores → SameLeft (lefts n) (lefts_now n)
  pub all_clocks : Same old.clocks new.clocks
