-- What setting own rows does to a list, and to its own rows with the last other one.
use Rattle.std.proofs.Common.{◌≡◌, Bool, true, false, cond, not, ◌&&◌, ◌||◌, List, [], ◌∷◌, refl, ap}
use Rattle.std.specs.Prelude.{filter}
use Rattle.std.specs.List.{list_all, list_any}
use Rattle.ps_base.specs.Rows.{put_row, without}
use Rattle.ps_rows.specs.Around.{own_and_last}

module _ {R : Type 0} (own : R → Bool) where
  same-step : (a b : Bool) (x : R) (xs rest : List R) → (a && b) ≡ true → (b ≡ true → rest ≡ xs) → cond (a || b) (x ∷ rest) rest ≡ x ∷ xs
  same-step true true x xs rest h more = ap (λ (l : List R). x ∷ l) (more refl)
  same-step true false x xs rest h more = absurd (cc)
  same-step false b x xs rest h more = absurd (cc)

  -- where all rows are own ones they are all
  pub around-all : (xs : List R) → list_all own xs ≡ true → own_and_last own xs ≡ xs
  around-all [] h = refl
  around-all (x ∷ xs) h = same-step (own x) (list_all own xs) x xs (own_and_last own xs) h (around-all xs)

  all-step : (a b : Bool) (x : R) (rest : List R) → own x ≡ a → list_all own rest ≡ b → list_all own (cond (a || b) (x ∷ rest) rest) ≡ (a && b)
  all-step true b x rest o h = rw (o, h) refl
  all-step false true x rest o h = rw o refl
  all-step false false x rest o h = h

  pub all-around : (xs : List R) → list_all own (own_and_last own xs) ≡ list_all own xs
  all-around [] = refl
  all-around (x ∷ xs) = all-step (own x) (list_all own xs) x (own_and_last own xs) refl (all-around xs)

-- a test that own rows alone pass
module _ {R : Type 0} (own test : R → Bool) (inside : (x : R) → test x ≡ true → own x ≡ true) where
  -- ---- an own row is put

  module _ (row : R) (is-own : own row ≡ true) where
    put-all-step : (b : Bool) (x : R) (xs : List R) → test x ≡ b → list_all own (put_row test row xs) ≡ list_all own xs
        → list_all own (cond b (row ∷ xs) (x ∷ put_row test row xs)) ≡ (own x && list_all own xs)
    put-all-step true x xs e ih = let same = inside x e in rw (is-own, same) refl
    put-all-step false x xs e ih = ap (λ (b : Bool). own x && b) ih

    pub put-all : (xs : List R) → list_all own (put_row test row xs) ≡ list_all own xs
    put-all [] = rw is-own refl
    put-all (x ∷ xs) = put-all-step (test x) x xs refl (put-all xs)

    around-put-step : (b a all : Bool) (x : R) (xs : List R) → test x ≡ b → own x ≡ a → list_all own xs ≡ all
        → own_and_last own (put_row test row xs) ≡ put_row test row (own_and_last own xs)
        → own_and_last own (cond b (row ∷ xs) (x ∷ put_row test row xs)) ≡ put_row test row (cond (a || all) (x ∷ own_and_last own xs) (own_and_last own xs))
    around-put-step true true all x xs t o e ih = rw (is-own, t) refl
    around-put-step true false all x xs t o e ih = let same = inside x t in absurd (cc)
    around-put-step false true all x xs t o e ih = rw (o, t) (ap (λ (l : List R). x ∷ l) ih)
    around-put-step false false true x xs t o e ih = let same = put-all xs in rw (o, same, e, t) (ap (λ (l : List R). x ∷ l) ih)
    around-put-step false false false x xs t o e ih = let same = put-all xs in rw (o, same, e) ih

    pub around-put : (xs : List R) → own_and_last own (put_row test row xs) ≡ put_row test row (own_and_last own xs)
    around-put [] = rw is-own refl
    around-put (x ∷ xs) = around-put-step (test x) (own x) (list_all own xs) x xs refl refl refl (around-put xs)

  -- ---- own rows go

  gone-all-step : (b : Bool) (x : R) (xs : List R) → test x ≡ b → list_all own (without test xs) ≡ list_all own xs
      → list_all own (cond (not b) (x ∷ without test xs) (without test xs)) ≡ (own x && list_all own xs)
  gone-all-step true x xs e ih = let same = inside x e in rw same ih
  gone-all-step false x xs e ih = ap (λ (b : Bool). own x && b) ih

  pub gone-all : (xs : List R) → list_all own (without test xs) ≡ list_all own xs
  gone-all [] = refl
  gone-all (x ∷ xs) = gone-all-step (test x) x xs refl (gone-all xs)

  around-gone-step : (b a all : Bool) (x : R) (xs : List R) → test x ≡ b → own x ≡ a → list_all own xs ≡ all
      → own_and_last own (without test xs) ≡ without test (own_and_last own xs)
      → own_and_last own (cond (not b) (x ∷ without test xs) (without test xs)) ≡ without test (cond (a || all) (x ∷ own_and_last own xs) (own_and_last own xs))
  around-gone-step true true all x xs t o e ih = rw t ih
  around-gone-step true false all x xs t o e ih = let same = inside x t in absurd (cc)
  around-gone-step false true all x xs t o e ih = rw (o, t) (ap (λ (l : List R). x ∷ l) ih)
  around-gone-step false false true x xs t o e ih = let same = gone-all xs in rw (o, same, e, t) (ap (λ (l : List R). x ∷ l) ih)
  around-gone-step false false false x xs t o e ih = let same = gone-all xs in rw (o, same, e) ih

  pub around-gone : (xs : List R) → own_and_last own (without test xs) ≡ without test (own_and_last own xs)
  around-gone [] = refl
  around-gone (x ∷ xs) = around-gone-step (test x) (own x) (list_all own xs) x xs refl refl refl (around-gone xs)
