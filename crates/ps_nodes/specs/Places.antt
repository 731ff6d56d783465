-- Rows by their places.
use Rattle.std.specs.Prelude.{◌≡◌, ℕ, Bool, nat_eq, List, [], ◌∷◌, ◌++◌, Option, Some, None, slice_get}
use Rattle.std.specs.List.{list_any}
use Rattle.ps_rows.specs.Standing.{passes_at}

-- among these places
abbrev pub is_place : ℕ → List ℕ → Bool
is_place at places = list_any (nat_eq at) places

module _ {R : Type 0} where
  -- the places are those of the rows that pass
  abbrev pub ArePlaces : (R → Bool) → List R → List ℕ → Type 0
  ArePlaces test rows places = (at : ℕ) → is_place at places ≡ passes_at test (slice_get rows at)

  abbrev pub option_list : Option R → List R
  option_list None = []
  option_list (Some row) = row ∷ []

  -- the rows at the places
  abbrev pub rows_at : List ℕ → List R → List R
  rows_at [] rows = []
  rows_at (place ∷ places) rows = option_list (slice_get rows place) ++ rows_at places rows
