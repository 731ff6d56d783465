-- What is true of some rows and how many are counted, by own rows and others.
use Rattle.std.proofs.Common.{◌≡◌, ℕ, ◌+◌, Bool, true, false, cond, not, ◌&&◌, ◌||◌, List, [], ◌∷◌, refl, ap, sym, ◌∙◌, arith}
use Rattle.std.specs.Prelude.{count_by}
use Rattle.std.specs.List.{list_all, list_any}
use Rattle.ps_base.specs.Rows.{put_row, without}
use Rattle.ps_base.proofs.Rows.{count_by-cons}
use Rattle.ps_rows.specs.Around.{own_and_last}

module _ {R : Type 0} (own p : R → Bool) where
  abbrev pub of_own : R → Bool
  of_own x = own x && p x

  abbrev pub of_other : R → Bool
  of_other x = not (own x) && p x

  any-step : (a all c u v : Bool) → (c || (u || v)) ≡ (cond (a || all) (c || u) u || ((not a && c) || v))
  any-step true all true u v = refl
  any-step true all false u v = refl
  any-step false true true u v = refl
  any-step false true false u v = refl
  any-step false false true true v = refl
  any-step false false true false v = refl
  any-step false false false u v = refl

  any-cond : (b : Bool) (x : R) (xs : List R) → list_any p (cond b (x ∷ xs) xs) ≡ cond b (p x || list_any p xs) (list_any p xs)
  any-cond true x xs = refl
  any-cond false x xs = refl

  -- some row is so: an own one or the last other one, or another one
  pub any-around : (xs : List R) → list_any p xs ≡ (list_any p (own_and_last own xs) || list_any of_other xs)
  any-around [] = refl
  any-around (x ∷ xs) =
      let ih = any-around xs in
      let c = any-cond (own x || list_all own xs) x (own_and_last own xs) in
      rw (ih, c) (any-step (own x) (list_all own xs) (p x) (list_any p (own_and_last own xs)) (list_any of_other xs))

  count-step : (a b : Bool) (x y z : ℕ) → x ≡ y + z → cond b 1 0 + x ≡ (cond (a && b) 1 0 + y) + (cond (not a && b) 1 0 + z)
  count-step true true x y z h = omega (arith, h)
  count-step true false x y z h = omega (arith, h)
  count-step false true x y z h = omega (arith, h)
  count-step false false x y z h = omega (arith, h)

  pub count-parts : (xs : List R) → count_by p xs ≡ count_by of_own xs + count_by of_other xs
  count-parts [] = refl
  count-parts (x ∷ xs) =
      let e = count_by-cons p x xs in let f = count_by-cons of_own x xs in let g = count_by-cons of_other x xs in
      rw (e, f, g) (count-step (own x) (p x) (count_by p xs) (count_by of_own xs) (count_by of_other xs) (count-parts xs))

  own-step : (a all b : Bool) (x : R) (xs : List R) → own x ≡ a → count_by of_own (cond (a || all) (x ∷ xs) xs) ≡ cond (a && p x) 1 0 + count_by of_own xs
  own-step true all b x xs o = count_by-cons of_own x xs ∙ rw o refl
  own-step false true b x xs o = count_by-cons of_own x xs ∙ rw o refl
  own-step false false b x xs o = omega arith

  pub count-around : (xs : List R) → count_by of_own (own_and_last own xs) ≡ count_by of_own xs
  count-around [] = refl
  count-around (x ∷ xs) =
      own-step (own x) (list_all own xs) (p x) x (own_and_last own xs) refl ∙ (ap (λ (n : ℕ). cond (own x && p x) 1 0 + n) (count-around xs) ∙ sym (count_by-cons of_own x xs))

-- rows of which none is so are put and go
module _ {R : Type 0} (test q : R → Bool) (outside : (x : R) → test x ≡ true → q x ≡ false) where
  any-put-step : (b : Bool) (row x : R) (xs : List R) → test x ≡ b → q row ≡ false → list_any q (put_row test row xs) ≡ list_any q xs
      → list_any q (cond b (row ∷ xs) (x ∷ put_row test row xs)) ≡ (q x || list_any q xs)
  any-put-step true row x xs t h ih = let no = outside x t in rw (no, h) refl
  any-put-step false row x xs t h ih = ap (λ (b : Bool). q x || b) ih

  pub any-put : (row : R) (xs : List R) → q row ≡ false → list_any q (put_row test row xs) ≡ list_any q xs
  any-put row [] h = rw h refl
  any-put row (x ∷ xs) h = any-put-step (test x) row x xs refl h (any-put row xs h)

  any-gone-step : (b : Bool) (x : R) (xs : List R) → test x ≡ b → list_any q (without test xs) ≡ list_any q xs
      → list_any q (cond (not b) (x ∷ without test xs) (without test xs)) ≡ (q x || list_any q xs)
  any-gone-step true x xs t ih = let no = outside x t in rw no ih
  any-gone-step false x xs t ih = ap (λ (b : Bool). q x || b) ih

  pub any-gone : (xs : List R) → list_any q (without test xs) ≡ list_any q xs
  any-gone [] = refl
  any-gone (x ∷ xs) = any-gone-step (test x) x xs refl (any-gone xs)

  count-put-step : (b : Bool) (row x : R) (xs : List R) → test x ≡ b → q row ≡ false → count_by q (put_row test row xs) ≡ count_by q xs
      → count_by q (cond b (row ∷ xs) (x ∷ put_row test row xs)) ≡ cond (q x) 1 0 + count_by q xs
  count-put-step true row x xs t h ih = let no = outside x t in count_by-cons q row xs ∙ rw (no, h) refl
  count-put-step false row x xs t h ih = count_by-cons q x (put_row test row xs) ∙ ap (λ (n : ℕ). cond (q x) 1 0 + n) ih

  pub count-put : (row : R) (xs : List R) → q row ≡ false → count_by q (put_row test row xs) ≡ count_by q xs
  count-put row [] h = count_by-cons q row [] ∙ rw h refl
  count-put row (x ∷ xs) h = count-put-step (test x) row x xs refl h (count-put row xs h) ∙ sym (count_by-cons q x xs)

  count-gone-step : (b : Bool) (x : R) (xs : List R) → test x ≡ b → count_by q (without test xs) ≡ count_by q xs
      → count_by q (cond (not b) (x ∷ without test xs) (without test xs)) ≡ cond (q x) 1 0 + count_by q xs
  count-gone-step true x xs t ih = let no = outside x t in rw no (omega (arith, ih))
  count-gone-step false x xs t ih = count_by-cons q x (without test xs) ∙ ap (λ (n : ℕ). cond (q x) 1 0 + n) ih

  pub count-gone : (xs : List R) → count_by q (without test xs) ≡ count_by q xs
  count-gone [] = refl
  count-gone (x ∷ xs) = count-gone-step (test x) x xs refl (count-gone xs) ∙ sym (count_by-cons q x xs)
