-- The number that digits write, digit by digit, up to 2^64.
use Rattle.std.proofs.Common.{◌≡◌, ℕ, ◌+◌, ◌*◌, ◌^◌, ◌<◌, ◌≤◌, Bool, true, false, cond, List, take, length, get_or, Option, Some, None, unwrap_or, refl, sym, ap, ◌∙◌, arith, lt-ltb, ltb-true}
use Rattle.std.specs.Prelude.{nat_lt}
use Rattle.std.specs.Char.{digit_value}
use Rattle.std.specs.Option.{SomeIff}
use Rattle.std.specs.Str.Parse.{digits_value}
use Rattle.std.proofs.lemmas.Int.Digits.{digits_value_more}
use Rattle.std.proofs.lemmas.Str.Parse.{digits_value-take-le}
use Rattle.ps_compact_codec.specs.Held.{is_held}
use Rattle.ps_compact_codec.specs.Kinds.{held_number}

-- ---- one number

pub some-held : (n m : ℕ) → n < 2 ^ 64 → n ≡ m → Some n ≡ held_number m
some-held n m few e = sym (ap (λ b. cond b (Some n) None) (lt-ltb n (2 ^ 64) few)) ∙ ap held_number e

none-held-by : (b : Bool) (n : ℕ) → nat_lt n (2 ^ 64) ≡ b → (n < 2 ^ 64 → ⊥) → None ≡ cond b (Some n) None
none-held-by true n e over = absurd (over (ltb-true n (2 ^ 64) e))
none-held-by false n e over = refl

pub none-held : (n : ℕ) → (n < 2 ^ 64 → ⊥) → None ≡ held_number n
none-held n over = none-held-by (is_held n) n refl over

pub held-iff : (o : Option ℕ) (n : ℕ) → SomeIff o (n < 2 ^ 64) n → o ≡ held_number n
held-iff None n is = none-held n is
held-iff (Some m) n is = ap (λ k. Some k) is.1 ∙ some-held n n is.0 refl

held-some-by : (b : Bool) (m n : ℕ) → nat_lt n (2 ^ 64) ≡ b → Some m ≡ cond b (Some n) None → (m ≡ n) × (n < 2 ^ 64)
held-some-by true m n e is = (ap (λ (o : Option ℕ). unwrap_or o m) is, ltb-true n (2 ^ 64) e)
held-some-by false m n e is = absurd (cc is)

pub held-some : (m n : ℕ) → Some m ≡ held_number n → (m ≡ n) × (n < 2 ^ 64)
held-some m n is = held-some-by (is_held n) m n refl is

held-none-by : (b : Bool) (n : ℕ) → nat_lt n (2 ^ 64) ≡ b → None ≡ cond b (Some n) None → n < 2 ^ 64 → ⊥
held-none-by true n e is few = absurd (cc is)
held-none-by false n e is few = let yes : nat_lt n (2 ^ 64) ≡ true = lt-ltb n (2 ^ 64) few in absurd (cc (yes, e))

pub held-none : (n : ℕ) → None ≡ held_number n → n < 2 ^ 64 → ⊥
held-none n is few = held-none-by (is_held n) n refl is few

-- ---- digit by digit

module _ (ds : List ℕ) (i n : ℕ) (so : n ≡ digits_value 10 (take i ds)) (within : i < length ds) where
  -- one digit more
  pub one-more : n * 10 + digit_value (get_or ds i 0) ≡ digits_value 10 (take (i + 1) ds)
  one-more = ap (λ m. m * 10 + digit_value (get_or ds i 0)) so ∙ sym (digits_value_more 10 ds i within)

  -- what is too large with one digit more is so with all
  pub too-large : (n * 10 + digit_value (get_or ds i 0) < 2 ^ 64 → ⊥) → None ≡ held_number (digits_value 10 ds)
  too-large over =
      let some : 1 ≤ 10 = omega arith in
      below (n * 10 + digit_value (get_or ds i 0)) (digits_value 10 (take (i + 1) ds)) (digits_value 10 ds) one-more (digits_value-take-le 10 ds (i + 1) some) over
    where
      below : (a b c : ℕ) → a ≡ b → b ≤ c → (a < 2 ^ 64 → ⊥) → None ≡ held_number c
      below a b c same le over = none-held c (λ (few : c < 2 ^ 64). over (omega (arith, same, le, few)))
