-- What holds of each of a list holds of each of its parts.
use Rattle.std.proofs.Common.{◌≡◌, ℕ, zero, suc, List, [], ◌∷◌, Some, drop, map, subst}
use Rattle.std.specs.Prelude.{slice_get}
use Rattle.std.specs.List.{AllByRecursion as Each}

module _ {R : Type 0} (P : R → Type 0) where
  pub each-at : (xs : List R) (k : ℕ) (x : R) → Each P xs → slice_get xs k ≡ Some x → P x
  each-at [] k x ps e = absurd (cc e)
  each-at (y ∷ xs) zero x ps e = let same : y ≡ x = cc e in subst P same ps.0
  each-at (y ∷ xs) (suc k) x ps e = each-at xs k x ps.1 e

  pub each-drop : (n : ℕ) (xs : List R) → Each P xs → Each P (drop n xs)
  each-drop zero xs ps = ps
  each-drop (suc n) [] ps = tt
  each-drop (suc n) (x ∷ xs) ps = each-drop n xs ps.1

  pub map-each : {T : Type 0} (Q : T → Type 0) (f : T → R) (xs : List T) → ((x : T) → Q x → P (f x)) → Each Q xs → Each P (map f xs)
  map-each Q f [] each qs = tt
  map-each Q f (x ∷ xs) each qs = (each x qs.0, map-each Q f xs each qs.1)
