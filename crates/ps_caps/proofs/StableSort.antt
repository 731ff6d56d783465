-- What a stable sort gives is the list sorted by insertion, and no other.
use Rattle.std.proofs.Common.{◌≡◌, ◌≢◌, ℕ, ◌+◌, ◌<◌, ◌≤◌, Bool, true, false, cond, not, ◌&&◌, List, [], ◌∷◌, refl, ap, sym, ◌∙◌, subst, suc, true≢false, arith, length, filter, map, get_or}
use Rattle.std.specs.Ordering.{is_lt, ordering_reverse}
use Rattle.std.specs.Cmp.{IsStrictWeakOrder, IsTotalOrder}
use Rattle.std.specs.declared.cmp.Ordering.{Ordering}
use Rattle.std.specs.declared.cmp.Ordering.TheVariants.{Less, Equal, Greater}
use Rattle.std.specs.List.Sorted.{IsSortedBy, IsStableBy, ties}
use Rattle.std.proofs.lemmas.List.Sorted.{sorted_far}
use Rattle.ps_types.specs.Ordered.{is_at_most, insert_by, sort_by}

module _ {X : Type 0} (lt : X → X → Bool) (o : IsStrictWeakOrder lt) where
  abbrev le : X → X → Bool
  le x y = not (lt y x)

  -- none of them is less
  abbrev pub Above : X → List X → Type 0
  Above x [] = Unit {0}
  Above x (y ∷ ys) = (lt y x ≡ false) × Above x ys

  abbrev pub Rises : List X → Type 0
  Rises [] = Unit {0}
  Rises (x ∷ xs) = Above x xs × Rises xs

  above_lower : (x y : X) (ys : List X) → lt y x ≡ false → Above y ys → Above x ys
  above_lower x y [] h a = tt
  above_lower x y (z ∷ zs) h a = (o.chain z y x a.0 h, above_lower x y zs h a.1)

  above_insert : (x a : X) (ys : List X) → lt a x ≡ false → Above x ys → Above x (insert_by le a ys)
  above_insert x a [] h up = (h, tt)
  above_insert x a (y ∷ ys) h up =
      elim (lt y a) as (λ b. Above x (cond (not b) (a ∷ y ∷ ys) (y ∷ insert_by le a ys))) [
        | true ↦ (up.0, above_insert x a ys h up.1)
        | false ↦ (h, up)
      ]

  rises_step : (a y : X) (ys : List X) (b : Bool) → lt y a ≡ b → Above y ys → Rises ys → Rises (insert_by le a ys) → Rises (cond (not b) (a ∷ y ∷ ys) (y ∷ insert_by le a ys))
  rises_step a y ys true e up r more = (above_insert y a ys (o.one_way y a e) up, more)
  rises_step a y ys false e up r more = ((e, above_lower a y ys e up), (up, r))

  rises_insert : (a : X) (ys : List X) → Rises ys → Rises (insert_by le a ys)
  rises_insert a [] r = (tt, tt)
  rises_insert a (y ∷ ys) r = rises_step a y ys (lt y a) refl r.0 r.1 (rises_insert a ys r.1)

  pub rises_sort : (xs : List X) → Rises (sort_by le xs)
  rises_sort [] = tt
  rises_sort (x ∷ xs) = rises_insert x (sort_by le xs) (rises_sort xs)

  -- ---- equal ones keep their order

  pub both_not : (a b : Bool) → not a && not b ≡ true → (a ≡ false) × (b ≡ false)
  both_not true b h = absurd (cc)
  both_not false true h = absurd (cc)
  both_not false false h = (refl, refl)

  apart : (x y a : X) → lt y a ≡ true → ties lt x y ≡ true → ties lt x a ≡ true → ⊥
  apart x y a l t u =
      let low : lt y a ≡ false = o.chain y x a (both_not (lt x y) (lt y x) t).1 (both_not (lt x a) (lt a x) u).0 in
      true≢false (sym l ∙ low)

  kept : (p : X → Bool) (x : X) (xs : List X) (b : Bool) → p x ≡ b → filter p (x ∷ xs) ≡ cond b (x ∷ filter p xs) (filter p xs)
  kept p x xs b e = ap (λ (q : Bool). cond q (x ∷ filter p xs) (filter p xs)) e

  moved : (a y : X) (l : List X) (s t : Bool) → (s ≡ true → t ≡ true → ⊥) → cond t (y ∷ cond s (a ∷ l) l) (cond s (a ∷ l) l) ≡ cond s (a ∷ cond t (y ∷ l) l) (cond t (y ∷ l) l)
  moved a y l true true h = absurd (h refl refl)
  moved a y l true false h = refl
  moved a y l false true h = refl
  moved a y l false false h = refl

  ties_step : (x a y : X) (ys : List X) (b : Bool) → lt y a ≡ b → filter (ties lt x) (insert_by le a ys) ≡ filter (ties lt x) (a ∷ ys)
      → filter (ties lt x) (cond (not b) (a ∷ y ∷ ys) (y ∷ insert_by le a ys)) ≡ filter (ties lt x) (a ∷ y ∷ ys)
  ties_step x a y ys true e ih =
      ap (λ (l : List X). cond (ties lt x y) (y ∷ l) l) ih ∙ moved a y (filter (ties lt x) ys) (ties lt x a) (ties lt x y) (λ s t. apart x y a e t s)
  ties_step x a y ys false e ih = refl

  ties_insert : (x a : X) (ys : List X) → filter (ties lt x) (insert_by le a ys) ≡ filter (ties lt x) (a ∷ ys)
  ties_insert x a [] = refl
  ties_insert x a (y ∷ ys) = ties_step x a y ys (lt y a) refl (ties_insert x a ys)

  ties_sort : (x : X) (xs : List X) → filter (ties lt x) (sort_by le xs) ≡ filter (ties lt x) xs
  ties_sort x [] = refl
  ties_sort x (y ∷ ys) = ties_insert x y (sort_by le ys) ∙ ap (λ (l : List X). cond (ties lt x y) (y ∷ l) l) (ties_sort x ys)

  -- ---- there is one such list

  not_below : (b : Bool) → (b ≡ true → b ≡ false) → b ≡ false
  not_below true h = h refl
  not_below false h = refl

  itself : (x : X) → lt x x ≡ false
  itself x = not_below (lt x x) (o.one_way x x)

  tie : (x y : X) → lt x y ≡ false → lt y x ≡ false → ties lt x y ≡ true
  tie x y a b = rw (a, b) refl

  above_if : (x y : X) (l : List X) (b : Bool) → lt y x ≡ false → Above x l → Above x (cond b (y ∷ l) l)
  above_if x y l true p q = (p, q)
  above_if x y l false p q = q

  above_filter : (p : X → Bool) (x : X) (xs : List X) → Above x xs → Above x (filter p xs)
  above_filter p x [] h = tt
  above_filter p x (y ∷ ys) h = above_if x y (filter p ys) (p y) h.0 (above_filter p x ys h.1)

  first_kept : (x : X) (xs : List X) → filter (ties lt x) (x ∷ xs) ≡ x ∷ filter (ties lt x) xs
  first_kept x xs = kept (ties lt x) x xs true (tie x x (itself x) (itself x))

  -- the first of a list that rises is not above what another such list has first
  least : (y z : X) (ys zs : List X) → Above z zs → filter (ties lt y) (y ∷ ys) ≡ filter (ties lt y) (z ∷ zs) → lt y z ≡ false
  least y z ys zs up h =
      (subst (Above z) (sym h ∙ first_kept y ys) (above_filter (ties lt y) z (z ∷ zs) (itself z, up))).0

  rest_by : (b c : Bool) → b ≡ c → (y z : X) (l m : List X) → cond b (y ∷ l) l ≡ cond c (z ∷ m) m → l ≡ m
  rest_by true true e y z l m h = cc
  rest_by true false e y z l m h = absurd (cc)
  rest_by false true e y z l m h = absurd (cc)
  rest_by false false e y z l m h = h

  one_list : (ys zs : List X) → Rises ys → Rises zs → ((x : X) → filter (ties lt x) ys ≡ filter (ties lt x) zs) → ys ≡ zs
  one_list [] [] r s h = refl
  one_list [] (z ∷ zs) r s h = let e = h z ∙ first_kept z zs in absurd (cc)
  one_list (y ∷ ys) [] r s h = let e = sym (h y) ∙ first_kept y ys in absurd (cc)
  one_list (y ∷ ys) (z ∷ zs) r s h =
      let low : lt y z ≡ false = least y z ys zs s.0 (h y) in
      let high : lt z y ≡ false = least z y zs ys r.0 (sym (h z)) in
      let e : y ∷ filter (ties lt y) ys ≡ z ∷ filter (ties lt y) zs = sym (first_kept y ys) ∙ h y ∙ kept (ties lt y) z zs true (tie y z low high) in
      let same : y ≡ z = cc in
      let more : ys ≡ zs = one_list ys zs r.1 s.1 (λ x. rest_by (ties lt x y) (ties lt x z) (ap (ties lt x) same) y z (filter (ties lt x) ys) (filter (ties lt x) zs) (h x)) in
      cc

  above_of : (x : X) (xs : List X) → ((k : ℕ) → k < length xs → lt (get_or xs k x) x ≡ false) → Above x xs
  above_of x [] h = tt
  above_of x (y ∷ ys) h = (h 0 (omega arith), above_of x ys (λ k p. h (suc k) (omega arith)))

  rises_of : (xs : List X) → ((i j : ℕ) (d : X) → i ≤ j → j < length xs → lt (get_or xs j d) (get_or xs i d) ≡ false) → Rises xs
  rises_of [] h = tt
  rises_of (x ∷ xs) h = (above_of x xs (λ k p. h 0 (suc k) x (omega arith) (omega arith)), rises_of xs (λ i j d p q. h (suc i) (suc j) d (omega arith) (omega arith)))

  pub sorted_is : (xs ys : List X) → IsSortedBy lt ys → IsStableBy lt xs ys → ys ≡ sort_by le xs
  sorted_is xs ys up stable = one_list ys (sort_by le xs) (rises_of ys (sorted_far lt o ys up)) (rises_sort xs) (λ x. stable x ∙ sym (ties_sort x xs))
