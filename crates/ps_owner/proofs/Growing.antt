-- A list whose own rows are set in order: when it is as it was.
use Rattle.std.proofs.Common.{◌≡◌, ℕ, suc, ◌<◌, ◌≤◌, Bool, true, false, cond, not, ◌&&◌, ◌||◌, List, [], ◌∷◌, length, refl, sym, ap, ◌∙◌, arith}
use Rattle.std.specs.List.{list_all}
use Rattle.std.specs.Cmp.Lexicographic.{pointwise}
use Rattle.ps_base.specs.Rows.{put_row, without}
use Rattle.ps_rows.specs.Around.{own_and_last}
use Rattle.ps_owner.proofs.Around.{around-all, all-around, put-all, gone-all}

-- the second list came of the first by changing own rows, taking them away, and putting more behind all others
pub data Grown {R : Type 0} (own : R → Bool) : List R → List R → Type 0 where
  ended : (xs ys : List R) → list_all own xs ≡ true → list_all own ys ≡ true → Grown own xs ys
  changed : (x y : R) (xs ys : List R) → own x ≡ true → own y ≡ true → list_all own xs ≡ false → Grown own xs ys → Grown own (x ∷ xs) (y ∷ ys)
  kept : (x : R) (xs ys : List R) → own x ≡ false → Grown own xs ys → Grown own (x ∷ xs) (x ∷ ys)
  gone : (x : R) (xs ys : List R) → own x ≡ true → list_all own xs ≡ false → Grown own xs ys → Grown own (x ∷ xs) ys

module _ {R : Type 0} (own : R → Bool) where
  grown-all : (xs ys : List R) → Grown own xs ys → list_all own ys ≡ list_all own xs
  grown-all xs ys (ended _ _ p q) = q ∙ sym p
  grown-all _ _ (changed x y xs ys p q n g) = let same = grown-all xs ys g in rw (q, same, n, p) refl
  grown-all _ _ (kept x xs ys p g) = rw (p) refl
  grown-all _ ys (gone x xs _ p n g) = let same = grown-all xs ys g in rw (same, n, p) refl

  itself-step : (a all : Bool) (x : R) (xs : List R) → own x ≡ a → list_all own xs ≡ all → Grown own xs xs → Grown own (x ∷ xs) (x ∷ xs)
  itself-step true true x xs o all g = ended (x ∷ xs) (x ∷ xs) (rw (o, all) refl) (rw (o, all) refl)
  itself-step true false x xs o all g = changed x x xs xs o o all g
  itself-step false all x xs o e g = kept x xs xs o g

  pub grown-itself : (xs : List R) → Grown own xs xs
  grown-itself [] = ended [] [] refl refl
  grown-itself (x ∷ xs) = itself-step (own x) (list_all own xs) x xs refl refl (grown-itself xs)

  module _ (test : R → Bool) (inside : (x : R) → test x ≡ true → own x ≡ true) where
    module _ (row : R) (is-own : own row ≡ true) where
      changed-put : (b : Bool) (x y : R) (xs ys : List R) → own x ≡ true → own y ≡ true → list_all own xs ≡ false → Grown own xs ys → Grown own xs (put_row test row ys)
          → Grown own (x ∷ xs) (cond b (row ∷ ys) (y ∷ put_row test row ys))
      changed-put true x y xs ys p q n g more = changed x row xs ys p is-own n g
      changed-put false x y xs ys p q n g more = changed x y xs (put_row test row ys) p q n more

      kept-put : (b : Bool) (x : R) (xs ys : List R) → test x ≡ b → own x ≡ false → Grown own xs (put_row test row ys) → Grown own (x ∷ xs) (cond b (row ∷ ys) (x ∷ put_row test row ys))
      kept-put true x xs ys t p more = let same = inside x t in absurd (cc)
      kept-put false x xs ys t p more = kept x xs (put_row test row ys) p more

      pub grown-put : (xs ys : List R) → Grown own xs ys → Grown own xs (put_row test row ys)
      grown-put xs ys (ended _ _ p q) = ended xs (put_row test row ys) p (put-all own test inside row is-own ys ∙ q)
      grown-put _ _ (changed x y xs ys p q n g) = changed-put (test y) x y xs ys p q n g (grown-put xs ys g)
      grown-put _ _ (kept x xs ys p g) = kept-put (test x) x xs ys refl p (grown-put xs ys g)
      grown-put _ ys (gone x xs _ p n g) = gone x xs (put_row test row ys) p n (grown-put xs ys g)

    changed-without : (b : Bool) (x y : R) (xs ys : List R) → own x ≡ true → own y ≡ true → list_all own xs ≡ false → Grown own xs (without test ys)
        → Grown own (x ∷ xs) (cond (not b) (y ∷ without test ys) (without test ys))
    changed-without true x y xs ys p q n more = gone x xs (without test ys) p n more
    changed-without false x y xs ys p q n more = changed x y xs (without test ys) p q n more

    kept-without : (b : Bool) (x : R) (xs ys : List R) → test x ≡ b → own x ≡ false → Grown own xs (without test ys) → Grown own (x ∷ xs) (cond (not b) (x ∷ without test ys) (without test ys))
    kept-without true x xs ys t p more = let same = inside x t in absurd (cc)
    kept-without false x xs ys t p more = kept x xs (without test ys) p more

    pub grown-without : (xs ys : List R) → Grown own xs ys → Grown own xs (without test ys)
    grown-without xs ys (ended _ _ p q) = ended xs (without test ys) p (gone-all own test inside ys ∙ q)
    grown-without _ _ (changed x y xs ys p q n g) = changed-without (test y) x y xs ys p q n (grown-without xs ys g)
    grown-without _ _ (kept x xs ys p g) = kept-without (test x) x xs ys refl p (grown-without xs ys g)
    grown-without _ ys (gone x xs _ p n g) = gone x xs (without test ys) p n (grown-without xs ys g)

  -- ---- how far the last row reaches that isn't an own one

  abbrev reach : List R → ℕ
  reach [] = 0
  reach (x ∷ xs) = cond (own x && list_all own xs) 0 (suc (reach xs))

  no-reach-step : (b : Bool) (n : ℕ) → b ≡ true → cond b 0 (suc n) ≡ 0
  no-reach-step true n h = refl
  no-reach-step false n h = absurd (cc)

  no-reach : (xs : List R) → list_all own xs ≡ true → reach xs ≡ 0
  no-reach [] h = refl
  no-reach (x ∷ xs) h = no-reach-step (own x && list_all own xs) (reach xs) h

  grown-reach : (xs ys : List R) → Grown own xs ys → reach ys ≤ reach xs
  grown-reach xs ys (ended _ _ p q) = let none = no-reach ys q in omega (arith, none)
  grown-reach _ _ (changed x y xs ys p q n g) = let same = grown-all xs ys g in let less = grown-reach xs ys g in rw (q, p, same, n) (omega (arith, less))
  grown-reach _ _ (kept x xs ys p g) = let less = grown-reach xs ys g in rw p (omega (arith, less))
  grown-reach _ ys (gone x xs _ p n g) = let less = grown-reach xs ys g in rw (p, n) (omega (arith, less))

  -- ---- the own rows with the last other one

  kept-around : (a all : Bool) (x : R) (xs ys : List R) → own x ≡ false → Grown own xs ys → Grown own (cond (a || all) (x ∷ xs) xs) (cond (a || all) (x ∷ ys) ys)
  kept-around true all x xs ys p g = kept x xs ys p g
  kept-around false true x xs ys p g = kept x xs ys p g
  kept-around false false x xs ys p g = g

  grown-around : (xs ys : List R) → Grown own xs ys → Grown own (own_and_last own xs) (own_and_last own ys)
  grown-around xs ys (ended _ _ p q) = ended (own_and_last own xs) (own_and_last own ys) (all-around own xs ∙ p) (all-around own ys ∙ q)
  grown-around _ _ (changed x y xs ys p q n g) = rw (p, q) (changed x y (own_and_last own xs) (own_and_last own ys) p q (all-around own xs ∙ n) (grown-around xs ys g))
  grown-around _ _ (kept x xs ys p g) = let same = grown-all xs ys g in rw same (kept-around (own x) (list_all own xs) x (own_and_last own xs) (own_and_last own ys) p (grown-around xs ys g))
  grown-around _ ys (gone x xs _ p n g) = rw p (gone x (own_and_last own xs) (own_and_last own ys) p (all-around own xs ∙ n) (grown-around xs ys g))

  -- ---- when it is as it was

  module _ (same : R → R → Bool) (itself : (x : R) → same x x ≡ true) (respects : (x y : R) → same x y ≡ true → own x ≡ own y) where
    left : (a b : Bool) → (a && b) ≡ true → a ≡ true
    left true b h = refl
    left false b h = absurd (cc)

    right : (a b : Bool) → (a && b) ≡ true → b ≡ true
    right true b h = h
    right false b h = absurd (cc)

    same-all : (ys xs : List R) → pointwise same ys xs ≡ true → list_all own ys ≡ list_all own xs
    same-all [] [] h = refl
    same-all [] (x ∷ xs) h = absurd (cc)
    same-all (y ∷ ys) [] h = absurd (cc)
    same-all (y ∷ ys) (x ∷ xs) h =
        let p = respects y x (left (same y x) (pointwise same ys xs) h) in
        let q = same-all ys xs (right (same y x) (pointwise same ys xs) h) in
        rw (p, q) refl

    same-reach : (ys xs : List R) → pointwise same ys xs ≡ true → reach ys ≡ reach xs
    same-reach [] [] h = refl
    same-reach [] (x ∷ xs) h = absurd (cc)
    same-reach (y ∷ ys) [] h = absurd (cc)
    same-reach (y ∷ ys) (x ∷ xs) h =
        let p = respects y x (left (same y x) (pointwise same ys xs) h) in
        let more = right (same y x) (pointwise same ys xs) h in
        let q = same-all ys xs more in
        let r = same-reach ys xs more in
        rw (p, q, r) refl

    by-reach : (b : Bool) (ys zs : List R) → pointwise same ys zs ≡ b → reach ys < reach zs → b ≡ false
    by-reach true ys zs h less = let e = same-reach ys zs h in absurd (omega (arith, e, less))
    by-reach false ys zs h less = refl

    gone-other : (x : R) (xs ys : List R) → own x ≡ true → list_all own xs ≡ false → Grown own xs ys → pointwise same ys (x ∷ xs) ≡ false
    gone-other x xs ys p n g =
        let less = grown-reach xs ys g in
        let far : reach (x ∷ xs) ≡ suc (reach xs) = rw (p, n) refl in
        by-reach (pointwise same ys (x ∷ xs)) ys (x ∷ xs) refl (omega (arith, less, far))

    kept-same : (a all : Bool) (x : R) (xs ys us vs : List R) → same x x ≡ true → pointwise same ys xs ≡ pointwise same vs us
        → pointwise same (x ∷ ys) (x ∷ xs) ≡ pointwise same (cond (a || all) (x ∷ vs) vs) (cond (a || all) (x ∷ us) us)
    kept-same true all x xs ys us vs i ih = ap (λ (b : Bool). same x x && b) ih
    kept-same false true x xs ys us vs i ih = ap (λ (b : Bool). same x x && b) ih
    kept-same false false x xs ys us vs i ih = rw i ih

    -- it is as it was where its own rows with the last other one are
    pub same-around : (xs ys : List R) → Grown own xs ys → pointwise same ys xs ≡ pointwise same (own_and_last own ys) (own_and_last own xs)
    same-around xs ys (ended _ _ p q) =
        let b = around-all own xs p in let c = around-all own ys q in
        rw (b, c) refl
    same-around _ _ (changed x y xs ys p q n g) = rw (p, q) (ap (λ (b : Bool). same y x && b) (same-around xs ys g))
    same-around _ _ (kept x xs ys p g) =
        let e = grown-all xs ys g in
        rw e (kept-same (own x) (list_all own xs) x xs ys (own_and_last own xs) (own_and_last own ys) (itself x) (same-around xs ys g))
    same-around _ ys (gone x xs _ p n g) =
        let one = gone-other x xs ys p n g in
        let two = gone-other x (own_and_last own xs) (own_and_last own ys) p (all-around own xs ∙ n) (grown-around xs ys g) in
        rw (one, p, two) refl
