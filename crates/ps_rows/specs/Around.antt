-- Some rows of a list, its own ones, with the last row that is none of them.
use Rattle.std.specs.Prelude.{◌≡◌, ℕ, ◌+◌, ◌≤◌, Bool, true, false, not, ◌||◌, cond, List, [], ◌∷◌, Option, Some, None, length, drop}
use Rattle.std.specs.List.{insert, list_all}
use Rattle.ps_rows.specs.Standing.{standing}

-- so it shows whether an own row that goes and comes back is the last of all
abbrev pub own_and_last : {R : Type 0} → (R → Bool) → List R → List R
own_and_last own [] = []
own_and_last own (x ∷ xs) = cond (own x || list_all own xs) (x ∷ own_and_last own xs) (own_and_last own xs)

-- a row is there that doesn't pass the test
abbrev pub fails_at : {R : Type 0} → (R → Bool) → Option R → Bool
fails_at test None = false
fails_at test (Some row) = not (test row)

-- the row put into a list, if there is one
abbrev pub around_at : {R : Type 0} → List R → ℕ → Option R → List R
around_at rows at None = rows
around_at rows at (Some row) = insert rows at row

-- where a walk back from the end stands: all rows from there on pass, and so many there are
pub record IsEnding {R : Type 0} (test : R → Bool) (slots : List (Option R)) (at tail : ℕ) : Type 0 where
  pub all : list_all test (standing (drop at slots)) ≡ true
  pub counted : tail ≡ length (standing (drop at slots))
  pub within : at ≤ length slots
  pub few : tail + at ≤ length slots
