-- What setting own rows in turn does to a list, and to its own rows with the last other one.
use Rattle.std.proofs.Common.{◌≡◌, ℕ, ◌+◌, Bool, true, false, cond, not, ◌&&◌, ◌||◌, List, [], ◌∷◌, Option, Some, None, refl, ap, sym, ◌∙◌, arith}
use Rattle.std.specs.Prelude.{count_by, find}
use Rattle.std.specs.List.{list_all, list_any}
use Rattle.std.specs.Cmp.Lexicographic.{pointwise}
use Rattle.ps_base.specs.Rows.{put_row, without}
use Rattle.ps_rows.specs.Around.{own_and_last}
use Rattle.ps_owner.proofs.Around.{all-around, around-put, around-gone}
use Rattle.ps_owner.proofs.Growing.{Grown, grown-itself, grown-put, grown-without, same-around}
use Rattle.ps_owner.proofs.Counting.{of_own, of_other, any-around, count-parts, count-around, any-put, any-gone, count-put, count-gone}

module _ {R : Type 0} (own : R → Bool) where
  again-step : (b : Bool) (x : R) (xs : List R) → b ≡ (own x || list_all own xs) → own_and_last own xs ≡ xs → own_and_last own (cond b (x ∷ xs) xs) ≡ cond b (x ∷ xs) xs
  again-step true x xs e ih = let f = sym e in rw f (ap (λ (l : List R). x ∷ l) ih)
  again-step false x xs e ih = ih

  -- of these rows they are all
  pub around-again : (xs : List R) → own_and_last own (own_and_last own xs) ≡ own_and_last own xs
  around-again [] = refl
  around-again (x ∷ xs) = again-step (own x || list_all own xs) x (own_and_last own xs) (ap (λ (b : Bool). own x || b) (sym (all-around own xs))) (around-again xs)

  find-step : (test : R → Bool) (inside : (x : R) → test x ≡ true → own x ≡ true) (a b all : Bool) (x : R) (xs : List R) → test x ≡ a → own x ≡ b → find test (own_and_last own xs) ≡ find test xs
      → find test (cond (b || all) (x ∷ own_and_last own xs) (own_and_last own xs)) ≡ cond a (Some x) (find test xs)
  find-step test inside true true all x xs t o ih = rw t refl
  find-step test inside true false all x xs t o ih = let same = inside x t in absurd (cc)
  find-step test inside false true all x xs t o ih = rw t ih
  find-step test inside false false true x xs t o ih = rw t ih
  find-step test inside false false false x xs t o ih = ih

  -- a test that own rows alone pass finds the same
  pub find-around : (test : R → Bool) (inside : (x : R) → test x ≡ true → own x ≡ true) (xs : List R) → find test (own_and_last own xs) ≡ find test xs
  find-around test inside [] = refl
  find-around test inside (x ∷ xs) = find-step test inside (test x) (own x) (list_all own xs) x xs refl refl (find-around test inside xs)

  -- own rows alone are set
  pub record Sets (op : List R → List R) : Type 0 where
    pub around : (xs : List R) → own_and_last own (op xs) ≡ op (own_and_last own xs)
    pub grown : (xs ys : List R) → Grown own xs ys → Grown own xs (op ys)
    pub any : (q : R → Bool) → ((x : R) → own x ≡ true → q x ≡ false) → (xs : List R) → list_any q (op xs) ≡ list_any q xs
    pub count : (q : R → Bool) → ((x : R) → own x ≡ true → q x ≡ false) → (xs : List R) → count_by q (op xs) ≡ count_by q xs

  pub sets-none : Sets (λ xs. xs)
  sets-none = record {
    around = λ xs. refl;
    grown = λ xs ys g. g;
    any = λ q h xs. refl;
    count = λ q h xs. refl;
  }

  pub sets-more : (op more : List R → List R) → Sets op → Sets more → Sets (λ xs. more (op xs))
  sets-more op more s m = record {
    around = λ xs. m.around (op xs) ∙ ap (λ (l : List R). more l) (s.around xs);
    grown = λ xs ys g. m.grown xs (op ys) (s.grown xs ys g);
    any = λ q h xs. m.any q h (op xs) ∙ s.any q h xs;
    count = λ q h xs. m.count q h (op xs) ∙ s.count q h xs;
  }

  module _ (test : R → Bool) (inside : (x : R) → test x ≡ true → own x ≡ true) where
    pub sets-put : (row : R) → own row ≡ true → Sets (λ xs. put_row test row xs)
    sets-put row o = record {
      around = λ xs. around-put own test inside row o xs;
      grown = λ xs ys g. grown-put own test inside row o xs ys g;
      any = λ q h xs. any-put test q (λ x t. h x (inside x t)) row xs (h row o);
      count = λ q h xs. count-put test q (λ x t. h x (inside x t)) row xs (h row o);
    }

    pub sets-gone : Sets (λ xs. without test xs)
    sets-gone = record {
      around = λ xs. around-gone own test inside xs;
      grown = λ xs ys g. grown-without own test inside xs ys g;
      any = λ q h xs. any-gone test q (λ x t. h x (inside x t)) xs;
      count = λ q h xs. count-gone test q (λ x t. h x (inside x t)) xs;
    }

  module _ (op : List R → List R) (s : Sets op) where
    -- of the few rows that are set
    pub edited : (xs : List R) → own_and_last own (op (own_and_last own xs)) ≡ own_and_last own (op xs)
    edited xs = ap (λ (l : List R). own_and_last own l) (sym (s.around xs)) ∙ around-again (op xs)

    -- the list is as it was where they are
    pub same-edited : (same : R → R → Bool) (itself : (x : R) → same x x ≡ true) (respects : (x y : R) → same x y ≡ true → own x ≡ own y) (xs : List R)
        → pointwise same (op xs) xs ≡ pointwise same (own_and_last own (op xs)) (own_and_last own xs)
    same-edited same itself respects xs = same-around own same itself respects xs (op xs) (s.grown xs xs (grown-itself own xs))

    no-own : (p : R → Bool) (x : R) → own x ≡ true → of_other own p x ≡ false
    no-own p x o = rw o refl

    -- some row is so: one of them, or another one
    pub any-edited : (p : R → Bool) (xs : List R) → list_any p (op xs) ≡ (list_any p (own_and_last own (op xs)) || list_any (of_other own p) xs)
    any-edited p xs = any-around own p (op xs) ∙ ap (λ (b : Bool). list_any p (own_and_last own (op xs)) || b) (s.any (of_other own p) (no-own p) xs)

    -- as many more are so as among them
    pub count-edited : (p : R → Bool) (xs : List R) → count_by p (op xs) + count_by p (own_and_last own xs) ≡ count_by p xs + count_by p (own_and_last own (op xs))
    count-edited p xs =
        let a = count-parts own p (op xs) in let b = count-parts own p xs in
        let c = count-parts own p (own_and_last own (op xs)) in let d = count-parts own p (own_and_last own xs) in
        let e = count-around own p (op xs) in let f = count-around own p xs in
        let g = s.count (of_other own p) (no-own p) xs in
        let h = ap (λ (l : List R). count_by (of_other own p) l) (s.around xs) ∙ s.count (of_other own p) (no-own p) (own_and_last own xs) in
        omega (arith, a, b, c, d, e, f, g, h)
