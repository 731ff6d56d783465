-- The last rows of a list, and a walk back that copies them.
use Rattle.std.specs.Prelude.{◌≡◌, ℕ, ◌-◌, ◌≤◌, Bool, List, Option, Some, length, drop, reverse}
use Rattle.std.specs.List.{AllZip}
use Rattle.ps_chains.specs.Marks.{mark_at}
use Rattle.ps_rows.specs.Standing.{marked_by, seen_after}

-- the last of a list, at most as many as given
abbrev pub newest_of : {R : Type 0} → ℕ → List R → List R
newest_of most rows = drop (length rows - most) rows

-- where a walk back stands that copies the rows that pass, the last first
pub record IsGatheringBack {R : Type 0} (alike : R → R → Type 0) (test : R → Bool) (by : R → ℕ) (digest most : ℕ) (at : Option ℕ) (slots : List (Option R)) (rows : List R) : Type 0 where
  pub gathered : AllZip alike (reverse (seen_after test at slots)) rows
  pub here : (place : ℕ) → at ≡ Some place → mark_at (marked_by by slots) place ≡ Some digest
  pub few : length rows ≤ most
