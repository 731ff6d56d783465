-- What a sort keeps of a list.
use Rattle.std.proofs.Common.{◌≡◌, Bool, true, false, cond, ◌&&◌, ◌||◌, List, [], ◌∷◌, refl, ap, sym, ◌∙◌, map}
use Rattle.std.specs.List.{list_any, list_all}
use Rattle.ps_types.specs.Ordered.{insert_by, sort_by, has_repeated}

-- ---- a sort of what is made of each

module _ {X Y : Type 0} (f : X → Y) (le : Y → Y → Bool) where
  map_insert : (a : X) (xs : List X) → map f (insert_by (λ x y. le (f x) (f y)) a xs) ≡ insert_by le (f a) (map f xs)
  map_insert a [] = refl
  map_insert a (x ∷ xs) =
      elim (le (f a) (f x)) as (λ b. map f (cond b (a ∷ x ∷ xs) (x ∷ insert_by (λ x y. le (f x) (f y)) a xs)) ≡ cond b (f a ∷ f x ∷ map f xs) (f x ∷ insert_by le (f a) (map f xs))) [
        | true ↦ refl
        | false ↦ ap (λ l. f x ∷ l) (map_insert a xs)
      ]

  pub map_sort : (xs : List X) → map f (sort_by (λ x y. le (f x) (f y)) xs) ≡ sort_by le (map f xs)
  map_sort [] = refl
  map_sort (x ∷ xs) = map_insert x (sort_by (λ x y. le (f x) (f y)) xs) ∙ ap (insert_by le (f x)) (map_sort xs)

-- ---- tests

or_front : (p q r : Bool) → p || (q || r) ≡ q || (p || r)
or_front true true r = refl
or_front true false r = refl
or_front false q r = refl

and_front : (p q r : Bool) → p && (q && r) ≡ q && (p && r)
and_front true q r = refl
and_front false true r = refl
and_front false false r = refl

or_mixed : (p q r s : Bool) → (p || q) || (r || s) ≡ (p || r) || (q || s)
or_mixed true q r s = refl
or_mixed false true true s = refl
or_mixed false true false s = refl
or_mixed false false r s = refl

module _ {X : Type 0} (le : X → X → Bool) where
  any_insert : (p : X → Bool) (a : X) (xs : List X) → list_any p (insert_by le a xs) ≡ (p a || list_any p xs)
  any_insert p a [] = refl
  any_insert p a (x ∷ xs) =
      elim (le a x) as (λ b. list_any p (cond b (a ∷ x ∷ xs) (x ∷ insert_by le a xs)) ≡ (p a || (p x || list_any p xs))) [
        | true ↦ refl
        | false ↦ ap (λ b. p x || b) (any_insert p a xs) ∙ or_front (p x) (p a) (list_any p xs)
      ]

  all_insert : (p : X → Bool) (a : X) (xs : List X) → list_all p (insert_by le a xs) ≡ (p a && list_all p xs)
  all_insert p a [] = refl
  all_insert p a (x ∷ xs) =
      elim (le a x) as (λ b. list_all p (cond b (a ∷ x ∷ xs) (x ∷ insert_by le a xs)) ≡ (p a && (p x && list_all p xs))) [
        | true ↦ refl
        | false ↦ ap (λ b. p x && b) (all_insert p a xs) ∙ and_front (p x) (p a) (list_all p xs)
      ]

  pub all_sort : (p : X → Bool) (xs : List X) → list_all p (sort_by le xs) ≡ list_all p xs
  all_sort p [] = refl
  all_sort p (x ∷ xs) = all_insert p x (sort_by le xs) ∙ ap (λ b. p x && b) (all_sort p xs)

  any_sort : (p : X → Bool) (xs : List X) → list_any p (sort_by le xs) ≡ list_any p xs
  any_sort p [] = refl
  any_sort p (x ∷ xs) = any_insert p x (sort_by le xs) ∙ ap (λ b. p x || b) (any_sort p xs)

  module _ (same : X → X → Bool) (either : (x y : X) → same x y ≡ same y x) where
    repeated_past : (a x : X) (xs : List X) → has_repeated same (insert_by le a xs) ≡ has_repeated same (a ∷ xs) → has_repeated same (x ∷ insert_by le a xs) ≡ has_repeated same (a ∷ x ∷ xs)
    repeated_past a x xs more =
        (λ i. any_insert (same x) a xs i || more i)
        ∙ ap (λ b. (b || list_any (same x) xs) || (list_any (same a) xs || has_repeated same xs)) (either x a)
        ∙ or_mixed (same a x) (list_any (same x) xs) (list_any (same a) xs) (has_repeated same xs)

    repeated_insert : (a : X) (xs : List X) → has_repeated same (insert_by le a xs) ≡ has_repeated same (a ∷ xs)
    repeated_insert a [] = refl
    repeated_insert a (x ∷ xs) =
        elim (le a x) as (λ b. has_repeated same (cond b (a ∷ x ∷ xs) (x ∷ insert_by le a xs)) ≡ has_repeated same (a ∷ x ∷ xs)) [
          | true ↦ refl
          | false ↦ repeated_past a x xs (repeated_insert a xs)
        ]

    pub repeated_sort : (xs : List X) → has_repeated same (sort_by le xs) ≡ has_repeated same xs
    repeated_sort [] = refl
    repeated_sort (x ∷ xs) = repeated_insert x (sort_by le xs) ∙ (λ i. any_sort (same x) xs i || repeated_sort xs i)
