-- Exactly one.
use Rattle.std.specs.Prelude.{List, [], ◌∷◌, Option, Some, None}

-- the item of a list that has one item
abbrev pub only : {T : Type 0} → List T → Option T
only [] = None
only (x ∷ []) = Some x
only (x ∷ y ∷ xs) = None
