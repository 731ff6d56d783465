-- A clock that always answers 0.
use Rattle.std.specs.Prelude.{ℕ, zero, suc, List, [], ◌∷◌, ◌++◌, Option, Some}

-- its answers, of so many calls
unfoldable pub zeros : ℕ → List (Option ℕ)
zeros zero = []
zeros (suc n) = zeros n ++ Some 0 ∷ []
