-- Rows that are changed one by one in what tests don't see, and what a search finds.
use Rattle.std.proofs.Common.{◌≡◌, ℕ, ◌+◌, Bool, true, false, cond, List, [], ◌∷◌, ◌++◌, Option, Some, None, refl, sym, ap, ◌∙◌, arith}
use Rattle.std.specs.Prelude.{filter, find, map, is_some, count_by, nat_le, ◌&&◌}
use Rattle.std.specs.List.{AllByRecursion as Each}
use Rattle.std.specs.Cmp.Lexicographic.{pointwise}
use Rattle.std.proofs.lemmas.Bool.{true≢false}
use Rattle.ps_base.specs.Rows.{put_row, keep_newest}
use Rattle.ps_base.proofs.Rows.{count_by-cons}

module _ {R : Type 0} (f : R → R) (test : R → Bool) (blind : (x : R) → test (f x) ≡ test x) where
  pub map-filter : (xs : List R) → filter test (map f xs) ≡ map f (filter test xs)
  map-filter [] = refl
  map-filter (x ∷ xs) = rw (blind x) (by (test x) (map-filter xs))
    where
      by : (b : Bool) → filter test (map f xs) ≡ map f (filter test xs) → cond b (f x ∷ filter test (map f xs)) (filter test (map f xs)) ≡ map f (cond b (x ∷ filter test xs) (filter test xs))
      by true more = ap (λ r. f x ∷ r) more
      by false more = more

  pub map-count : (xs : List R) → count_by test (map f xs) ≡ count_by test xs
  map-count [] = refl
  map-count (x ∷ xs) = count_by-cons test (f x) (map f xs) ∙ rw (blind x, map-count xs) (sym (count_by-cons test x xs))

  pub map-newest : (most : ℕ) (xs : List R) → keep_newest test most (map f xs) ≡ map f (keep_newest test most xs)
  map-newest most [] = refl
  map-newest most (x ∷ xs) = rw (blind x, map-count xs) (by (test x && nat_le most (count_by test xs)) (map-newest most xs))
    where
      by : (b : Bool) → keep_newest test most (map f xs) ≡ map f (keep_newest test most xs)
          → cond b (keep_newest test most (map f xs)) (f x ∷ keep_newest test most (map f xs)) ≡ map f (cond b (keep_newest test most xs) (x ∷ keep_newest test most xs))
      by true more = more
      by false more = ap (λ r. f x ∷ r) more

  pub map-found : (xs : List R) → is_some (find test (map f xs)) ≡ is_some (find test xs)
  map-found [] = refl
  map-found (x ∷ xs) = rw (blind x) (by (test x) (map-found xs))
    where
      by : (b : Bool) → is_some (find test (map f xs)) ≡ is_some (find test xs) → is_some (cond b (Some (f x)) (find test (map f xs))) ≡ is_some (cond b (Some x) (find test xs))
      by true more = refl
      by false more = more

module _ {R : Type 0} (f : R → R) where
  pub map-more : (xs ys : List R) → map f (xs ++ ys) ≡ map f xs ++ map f ys
  map-more [] ys = refl
  map-more (x ∷ xs) ys = ap (λ r. f x ∷ r) (map-more xs ys)

  -- what is made of a row, where that doesn't see the change
  pub map-blind : {S : Type 0} (g : R → S) → ((x : R) → g (f x) ≡ g x) → (xs : List R) → map g (map f xs) ≡ map g xs
  map-blind g blind [] = refl
  map-blind g blind (x ∷ xs) = rw (blind x, map-blind g blind xs) refl

module _ {R : Type 0} (test : R → Bool) where
  -- what is found passes
  pub find-passes : (xs : List R) (x : R) → find test xs ≡ Some x → test x ≡ true
  find-passes [] x h = absurd (cc h)
  find-passes (y ∷ xs) x h = by (test y) refl h (λ k. find-passes xs x k)
    where
      by : (b : Bool) → test y ≡ b → cond b (Some y) (find test xs) ≡ Some x → (find test xs ≡ Some x → test x ≡ true) → test x ≡ true
      by true e h more = let same : y ≡ x = cc h in ap test (sym same) ∙ e
      by false e h more = more h

  -- ---- a row that is put is news, unless an equal one stands there
  abbrev pub news : (R → R → Bool) → R → Option R → Bool
  news eq row None = false
  news eq row (Some x) = eq row x

  module _ (eq : R → R → Bool) (itself : (x : R) → eq x x ≡ true) where
    pointwise-itself : (xs : List R) → pointwise eq xs xs ≡ true
    pointwise-itself [] = refl
    pointwise-itself (x ∷ xs) = rw (itself x, pointwise-itself xs) refl

  pub put-same : (eq : R → R → Bool) → ((x : R) → eq x x ≡ true) → (row : R) (xs : List R) → pointwise eq (put_row test row xs) xs ≡ news eq row (find test xs)
  put-same eq itself row [] = refl
  put-same eq itself row (x ∷ xs) = by (test x) (pointwise-itself eq itself xs) (put-same eq itself row xs)
    where
      right : (c : Bool) → (c && true) ≡ c
      right true = refl
      right false = refl

      by : (b : Bool) → pointwise eq xs xs ≡ true → pointwise eq (put_row test row xs) xs ≡ news eq row (find test xs)
          → pointwise eq (cond b (row ∷ xs) (x ∷ put_row test row xs)) (x ∷ xs) ≡ news eq row (cond b (Some x) (find test xs))
      by true all more = rw all (right (eq row x))
      by false all more = rw (itself x) more

-- ---- what holds of each row

module _ {R : Type 0} (P : R → Type 0) where
  pub each-filter : (test : R → Bool) (xs : List R) → Each P xs → Each P (filter test xs)
  each-filter test [] ps = tt
  each-filter test (x ∷ xs) ps = by (test x) (each-filter test xs ps.1)
    where
      by : (b : Bool) → Each P (filter test xs) → Each P (cond b (x ∷ filter test xs) (filter test xs))
      by true more = (ps.0, more)
      by false more = more

  pub each-put : (test : R → Bool) (row : R) → P row → (xs : List R) → Each P xs → Each P (put_row test row xs)
  each-put test row p [] ps = (p, tt)
  each-put test row p (x ∷ xs) ps = by (test x) (each-put test row p xs ps.1)
    where
      by : (b : Bool) → Each P (put_row test row xs) → Each P (cond b (row ∷ xs) (x ∷ put_row test row xs))
      by true more = (p, ps.1)
      by false more = (ps.0, more)

  pub each-last : (row : R) → P row → (xs : List R) → Each P xs → Each P (xs ++ row ∷ [])
  each-last row p [] ps = (p, tt)
  each-last row p (x ∷ xs) ps = (ps.0, each-last row p xs ps.1)

  -- how many pass a test, where each that passes is kept
  pub count-kept : (test keep : R → Bool) → ((x : R) → P x → test x ≡ true → keep x ≡ true) → (xs : List R) → Each P xs → count_by test (filter keep xs) ≡ count_by test xs
  count-kept test keep seen [] ps = refl
  count-kept test keep seen (x ∷ xs) ps = by (keep x) (test x) refl refl (count-kept test keep seen xs ps.1) ∙ sym (count_by-cons test x xs)
    where
      by : (b t : Bool) → keep x ≡ b → test x ≡ t → count_by test (filter keep xs) ≡ count_by test xs
          → count_by test (cond b (x ∷ filter keep xs) (filter keep xs)) ≡ cond (test x) 1 0 + count_by test xs
      by true t e is h = count_by-cons test x (filter keep xs) ∙ ap (λ n. cond (test x) 1 0 + n) h
      by false true e is h = absurd (true≢false (sym (seen x ps.0 is) ∙ e))
      by false false e is h = rw is (omega (arith, h))
