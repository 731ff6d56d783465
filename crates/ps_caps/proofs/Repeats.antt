-- What is repeated stands side by side in a sorted list.
use Rattle.std.proofs.Common.{◌≡◌, Bool, true, false, not, ◌&&◌, ◌||◌, List, [], ◌∷◌, refl, ap, sym, ◌∙◌, true≢false}
use Rattle.std.specs.List.{list_any}
use Rattle.std.specs.Cmp.{IsStrictWeakOrder}
use Rattle.std.specs.List.Sorted.{ties}
use Rattle.ps_types.specs.Ordered.{sort_by, has_repeated}
use Rattle.ps_caps.specs.Repeated.{neighbours}
use Rattle.ps_caps.proofs.Kept.{repeated_sort}
use Rattle.ps_caps.proofs.StableSort.{Above, Rises, both_not, rises_sort}

and_other : (p q : Bool) → p && q ≡ q && p
and_other true true = refl
and_other true false = refl
and_other false true = refl
and_other false false = refl

module _ {X : Type 0} (lt : X → X → Bool) (o : IsStrictWeakOrder lt) where
  not_tied : (x y z : X) (b : Bool) → lt x y ≡ true → lt z y ≡ false → ties lt x z ≡ b → b ≡ false
  not_tied x y z true l h e = let low : lt x y ≡ false = o.chain x z y (both_not lt o (lt x z) (lt z x) e).0 h in absurd (true≢false (sym l ∙ low))
  not_tied x y z false l h e = refl

  -- where the next is above, all are
  none_far : (x y : X) → lt x y ≡ true → (zs : List X) → Above lt o y zs → list_any (ties lt x) zs ≡ false
  none_far x y l [] up = refl
  none_far x y l (z ∷ zs) up = (λ i. not_tied x y z (ties lt x z) l up.0 refl i || none_far x y l zs up.1 i)

  higher : (x y : X) (b : Bool) → lt x y ≡ b → lt y x ≡ false → ties lt x y ≡ false → lt x y ≡ true
  higher x y true e h n = e
  higher x y false e h n = absurd (true≢false ((λ i. sym (ap not e) i && sym (ap not h) i) ∙ n))

  repeated_next : (x y : X) (ys : List X) (b : Bool) → ties lt x y ≡ b → lt y x ≡ false → Above lt o y ys → neighbours (ties lt) (y ∷ ys) ≡ has_repeated (ties lt) (y ∷ ys)
      → b || neighbours (ties lt) (y ∷ ys) ≡ (b || list_any (ties lt x) ys) || has_repeated (ties lt) (y ∷ ys)
  repeated_next x y ys true e h up more = refl
  repeated_next x y ys false e h up more = (λ i. sym (none_far x y (higher x y (lt x y) refl h e) ys up) i || more i)

  repeated_neighbours : (xs : List X) → Rises lt o xs → neighbours (ties lt) xs ≡ has_repeated (ties lt) xs
  repeated_neighbours [] r = refl
  repeated_neighbours (x ∷ []) r = refl
  repeated_neighbours (x ∷ y ∷ ys) r = repeated_next x y ys (ties lt x y) refl r.0.0 r.1.0 (repeated_neighbours (y ∷ ys) r.1)

  pub repeated_sorted : (xs : List X) → neighbours (ties lt) (sort_by (λ x y. not (lt y x)) xs) ≡ has_repeated (ties lt) xs
  repeated_sorted xs =
      repeated_neighbours (sort_by (λ x y. not (lt y x)) xs) (rises_sort lt o xs)
      ∙ repeated_sort (λ x y. not (lt y x)) (ties lt) (λ x y. and_other (not (lt x y)) (not (lt y x))) xs
