-- Some row passes where one is found.
use Rattle.std.proofs.Common.{◌≡◌, Bool, true, false, cond, ◌||◌, List, [], ◌∷◌, Option, Some, refl}
use Rattle.std.specs.Prelude.{find, is_some}
use Rattle.std.specs.List.{list_any}

pub any-find : {R : Type 0} (test : R → Bool) (rows : List R) → list_any test rows ≡ is_some (find test rows)
any-find test [] = refl
any-find test (x ∷ xs) = by (test x) (any-find test xs)
  where
    by : (b : Bool) → list_any test xs ≡ is_some (find test xs) → b || list_any test xs ≡ is_some (cond b (Some x) (find test xs))
    by true h = refl
    by false h = h
