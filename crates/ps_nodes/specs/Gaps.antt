-- The empty places among places, in order, and how many of them come before a bound.
use Rattle.std.specs.Prelude.{◌≡◌, ℕ, ◌+◌, ◌-◌, ◌<◌, ◌≤◌, Bool, false, cond, length, List, [], ◌∷◌, Option, Some, None, get_or, insert}

module _ {R : Type 0} where
  -- the empty places, where the first place has this number
  abbrev pub empties : ℕ → List (Option R) → List ℕ
  empties from [] = []
  empties from (None ∷ slots) = from ∷ empties (from + 1) slots
  empties from (Some row ∷ slots) = empties (from + 1) slots

-- each gap is beyond the one before it
abbrev pub IsRising : List ℕ → Type 0
IsRising gaps = (i j : ℕ) → i ≤ j → j < length gaps → get_or gaps i 0 + (j - i) ≤ get_or gaps j 0

-- the bound for a gap: the same for all, or one more with each gap, so that it counts the rows before the gap
abbrev pub limit : Bool → ℕ → ℕ → ℕ
limit ranked bound i = bound + cond ranked i 0

-- the gaps before the cut are below the bound, and no others
pub record IsCut (ranked : Bool) (gaps : List ℕ) (bound cut : ℕ) : Type 0 where
  pub within : cut ≤ length gaps
  pub before : (i : ℕ) → i < cut → get_or gaps i 0 < limit ranked bound i
  pub after : (i : ℕ) → cut ≤ i → i < length gaps → limit ranked bound i ≤ get_or gaps i 0

-- one more place is a gap
pub record IsPut (place : ℕ) (old new : List ℕ) : Type 0 where
  pub cut : ℕ
  pub is : IsCut false old place cut
  pub put : new ≡ insert old cut place
