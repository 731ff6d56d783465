-- Each row beside its place in the list of the rows that stand.
use Rattle.std.specs.Prelude.{ℕ, ◌+◌, List, [], ◌∷◌, Option, Some, None}

module _ {R : Type 0} where
  -- the rows in their places, each with a number, where the first that stands has this one
  abbrev pub ranked : ℕ → List (Option R) → List (Option (ℕ × R))
  ranked from [] = []
  ranked from (None ∷ slots) = None ∷ ranked from slots
  ranked from (Some row ∷ slots) = Some (from, row) ∷ ranked (from + 1) slots
