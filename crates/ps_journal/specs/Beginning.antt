-- What is written to begin a store.
use Rattle.std.specs.Prelude.{◌≡◌, ℕ, Bool, false, List, [], ◌∷◌, drop, ◌==◌}

-- `UBSUBJ2` and a closed gate
abbrev pub middle : List ℕ
middle = 85 ∷ 66 ∷ 83 ∷ 85 ∷ 66 ∷ 74 ∷ 50 ∷ 0 ∷ []

abbrev pub has_zero_first : List ℕ → Bool
has_zero_first [] = false
has_zero_first (b ∷ rest) = b == 0

-- the nine bytes of a store that was begun: the header of version 2, and a closed gate
abbrev pub beginning : List ℕ
beginning = 80 ∷ middle

-- the first byte is 0 now
abbrev pub BeginsWithZero : List ℕ → List ℕ → Type 0
BeginsWithZero old new = new ≡ 0 ∷ drop 1 old
