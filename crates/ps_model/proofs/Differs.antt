-- When rows are as they were after one is put, changed or taken away.
use Rattle.std.proofs.Common.{◌≡◌, ◌<◌, ◌≤◌, Bool, true, false, cond, not, ◌&&◌, ◌||◌, List, [], ◌∷◌, length, Option, Some, None, refl, arith}
use Rattle.std.specs.Prelude.{find}
use Rattle.std.specs.List.{list_any}
use Rattle.std.specs.Cmp.Lexicographic.{pointwise}
use Rattle.ps_base.specs.Rows.{put_row, change_row, without}

module _ {R : Type 0} (same : R → R → Bool) (itself : (x : R) → same x x ≡ true) where
  pub all-same : (xs : List R) → pointwise same xs xs ≡ true
  all-same [] = refl
  all-same (x ∷ xs) = rw (itself x) (all-same xs)

  -- the row that is there is the one that is put
  abbrev pub found-same : R → Option R → Bool
  found-same row None = false
  found-same row (Some x) = same row x

  and-true : (b : Bool) → (b && true) ≡ b
  and-true true = refl
  and-true false = refl

  put-step : (test : R → Bool) (row x : R) (xs : List R) (b : Bool) → pointwise same (put_row test row xs) xs ≡ found-same row (find test xs)
      → pointwise same (cond b (row ∷ xs) (x ∷ put_row test row xs)) (x ∷ xs) ≡ found-same row (cond b (Some x) (find test xs))
  put-step test row x xs true h = rw (all-same xs) (and-true (same row x))
  put-step test row x xs false h = rw (itself x) h

  -- after a row is put, the rows are as they were where an equal one was there
  pub same-put : (test : R → Bool) (row : R) (xs : List R) → pointwise same (put_row test row xs) xs ≡ found-same row (find test xs)
  same-put test row [] = refl
  same-put test row (x ∷ xs) = put-step test row x xs (test x) (same-put test row xs)

  -- the row that is there is what it is changed to
  abbrev pub found-kept : (R → R) → Option R → Bool
  found-kept f None = true
  found-kept f (Some x) = same (f x) x

  change-step : (test : R → Bool) (f : R → R) (x : R) (xs : List R) (b : Bool) → pointwise same (change_row test f xs) xs ≡ found-kept f (find test xs)
      → pointwise same (cond b (f x ∷ xs) (x ∷ change_row test f xs)) (x ∷ xs) ≡ found-kept f (cond b (Some x) (find test xs))
  change-step test f x xs true h = rw (all-same xs) (and-true (same (f x) x))
  change-step test f x xs false h = rw (itself x) h

  pub same-change : (test : R → Bool) (f : R → R) (xs : List R) → pointwise same (change_row test f xs) xs ≡ found-kept f (find test xs)
  same-change test f [] = refl
  same-change test f (x ∷ xs) = change-step test f x xs (test x) (same-change test f xs)

  -- ---- rows that go

  fewer-step : (test : R → Bool) (x : R) (xs : List R) (b : Bool) → length (without test xs) ≤ length xs → length (cond (not b) (x ∷ without test xs) (without test xs)) ≤ length (x ∷ xs)
  fewer-step test x xs true h = omega (arith, h)
  fewer-step test x xs false h = omega (arith, h)

  fewer : (test : R → Bool) (xs : List R) → length (without test xs) ≤ length xs
  fewer test [] = omega arith
  fewer test (x ∷ xs) = fewer-step test x xs (test x) (fewer test xs)

  and-false : (b : Bool) → (b && false) ≡ false
  and-false true = refl
  and-false false = refl

  shorter : (xs ys : List R) → length xs < length ys → pointwise same xs ys ≡ false
  shorter [] [] h = absurd (omega (arith, h))
  shorter [] (y ∷ ys) h = refl
  shorter (x ∷ xs) [] h = absurd (omega (arith, h))
  shorter (x ∷ xs) (y ∷ ys) h = rw (shorter xs ys (omega (arith, h))) (and-false (same x y))

  gone-step : (test : R → Bool) (x : R) (xs : List R) (b : Bool) → pointwise same (without test xs) xs ≡ not (list_any test xs)
      → pointwise same (cond (not b) (x ∷ without test xs) (without test xs)) (x ∷ xs) ≡ not (b || list_any test xs)
  gone-step test x xs true h = let few = fewer test xs in shorter (without test xs) (x ∷ xs) (omega (arith, few))
  gone-step test x xs false h = rw (itself x) h

  -- after rows went, they are as they were where there was none
  pub same-without : (test : R → Bool) (xs : List R) → pointwise same (without test xs) xs ≡ not (list_any test xs)
  same-without test [] = refl
  same-without test (x ∷ xs) = gone-step test x xs (test x) (same-without test xs)
