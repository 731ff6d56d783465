-- When all rows stay, where the oldest go or all do.
use Rattle.std.proofs.Common.{◌≡◌, ℕ, suc, ◌+◌, ◌<◌, ◌≤◌, Bool, true, false, cond, not, ◌&&◌, ◌==◌, List, [], ◌∷◌, length, refl, ap, arith}
use Rattle.std.specs.Prelude.{count_by, nat_le}
use Rattle.std.proofs.lemmas.Bool.Decides.{nat_tests}
use Rattle.ps_base.specs.Rows.{keep_newest, without}
use Rattle.ps_base.proofs.Rows.{count_by-cons, keep_newest-all}

same-length : (b : Bool) (most count kept all : ℕ) → nat_le count most ≡ b → (count ≤ most → kept ≡ all) → (most < count → kept < all) → (kept == all) ≡ b
same-length true most count kept all e few many = let le : count ≤ most = grind (arith, nat_tests) in let same = few le in grind (arith, nat_tests)
same-length false most count kept all e few many = let lt : most < count = grind (arith, nat_tests) in let less = many lt in grind (arith, nat_tests)

module _ {R : Type 0} (test : R → Bool) where
  few-step : (b : Bool) (most : ℕ) (x : R) (xs : List R) → length (keep_newest test most xs) ≤ length xs → length (cond b (keep_newest test most xs) (x ∷ keep_newest test most xs)) ≤ suc (length xs)
  few-step true most x xs h = omega (arith, h)
  few-step false most x xs h = omega (arith, h)

  kept-few : (most : ℕ) (xs : List R) → length (keep_newest test most xs) ≤ length xs
  kept-few most [] = omega arith
  kept-few most (x ∷ xs) = few-step (test x && nat_le most (count_by test xs)) most x xs (kept-few most xs)

  less-step : (b c : Bool) (most : ℕ) (x : R) (xs : List R) → nat_le most (count_by test xs) ≡ c → most < cond b 1 0 + count_by test xs
      → (most < count_by test xs → length (keep_newest test most xs) < length xs) → length (cond (b && c) (keep_newest test most xs) (x ∷ keep_newest test most xs)) < suc (length xs)
  less-step true true most x xs e h more = let few = kept-few most xs in omega (arith, few)
  less-step true false most x xs e h more = let lt : count_by test xs < most = grind (arith, nat_tests) in absurd (omega (arith, lt, h))
  less-step false c most x xs e h more = let less = more (omega (arith, h)) in omega (arith, less)

  kept-less : (most : ℕ) (xs : List R) → most < count_by test xs → length (keep_newest test most xs) < length xs
  kept-less most [] h = absurd (omega (arith, h))
  kept-less most (x ∷ xs) h =
      let n = count_by-cons test x xs in
      less-step (test x) (nat_le most (count_by test xs)) most x xs refl (omega (arith, n, h)) (λ m. kept-less most xs m)

  -- all rows stay where not too many pass
  pub kept-same : (most : ℕ) (xs : List R) → (length (keep_newest test most xs) == length xs) ≡ nat_le (count_by test xs) most
  kept-same most xs = same-length (nat_le (count_by test xs) most) most (count_by test xs) (length (keep_newest test most xs)) (length xs) refl
      (λ few. ap (λ (l : List R). length l) (keep_newest-all test most xs few)) (λ many. kept-less most xs many)

  gone-step : (b : Bool) (x : R) (xs : List R) → length (without test xs) + count_by test xs ≡ length xs
      → length (cond (not b) (x ∷ without test xs) (without test xs)) + (cond b 1 0 + count_by test xs) ≡ suc (length xs)
  gone-step true x xs h = omega (arith, h)
  gone-step false x xs h = omega (arith, h)

  gone-count : (xs : List R) → length (without test xs) + count_by test xs ≡ length xs
  gone-count [] = refl
  gone-count (x ∷ xs) = let n = count_by-cons test x xs in rw n (gone-step (test x) x xs (gone-count xs))

  -- all rows stay where none passes
  pub gone-same : (xs : List R) → (length (without test xs) == length xs) ≡ (count_by test xs == 0)
  gone-same xs = by (count_by test xs == 0) refl
    where
      by : (b : Bool) → (count_by test xs == 0) ≡ b → (length (without test xs) == length xs) ≡ b
      by true e = let n = gone-count xs in grind (arith, nat_tests)
      by false e = let n = gone-count xs in grind (arith, nat_tests)
