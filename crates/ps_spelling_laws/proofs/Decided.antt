-- What holds or doesn't.
use Rattle.std.proofs.Common.{◌≡◌, ◌≢◌, ◌⊎◌, inl, inr, ℕ, ◌<◌, Bool, true, false, List, [], ◌∷◌, Option, Some, None, refl, sym, subst, arith}
use Rattle.std.specs.Prelude.{Decides, nat_lt, bytes_eq}
use Rattle.std.proofs.lemmas.Bool.{true≢false, ltb-true, ltb-false}
use Rattle.std.proofs.lemmas.Slice.Eq.{bytes_eq-Decides}

abbrev pub Decided : Type 0 → Type 0
Decided P = P ⊎ (P → ⊥)

pub by-test : (P : Type 0) (b : Bool) → Decides b P → Decided P
by-test P true d = inl (d.0 refl)
by-test P false d = inr (λ p. true≢false (sym (d.1 p)))

pub both : {P Q : Type 0} → Decided P → Decided Q → Decided (P × Q)
both (inl p) (inl q) = inl (p, q)
both (inl p) (inr q) = inr (λ h. q h.1)
both (inr p) d = inr (λ h. p h.0)

pub either-way : {P Q : Type 0} → (P → Q) → (Q → P) → Decided P → Decided Q
either-way f g (inl p) = inl (f p)
either-way f g (inr never) = inr (λ q. never (g q))

pub same-bytes : (a b : List ℕ) → Decided (a ≡ b)
same-bytes a b = by-test (a ≡ b) (bytes_eq a b) (bytes_eq-Decides a b)

pub is-true : (b : Bool) → Decided (b ≡ true)
is-true true = inl refl
is-true false = inr (λ e. true≢false (sym e))

pub is-below : (n m : ℕ) → Decided (n < m)
is-below n m = by (nat_lt n m) refl
  where
    by : (b : Bool) → nat_lt n m ≡ b → Decided (n < m)
    by true e = inl (ltb-true n m e)
    by false e = inr (λ l. omega (arith, l, ltb-false n m e))

pub some-bytes : (a : List ℕ) → Decided (a ≢ [])
some-bytes [] = inr (λ h. h refl)
some-bytes (x ∷ a) = inl (λ e. absurd (cc e))

some-is : {A : Type 0} (x y : A) → Some x ≡ Some y → x ≡ y
some-is x y e = cc e

-- what has the property is what was found, if anything has it
pub found : {A : Type 0} (P : A → Type 0) (o : Option A) → ((a : A) → Decided (P a)) → ((a : A) → P a → o ≡ Some a) → Decided ((a : A) × P a)
found {A = A} P None each only = inr (λ h. absurd (cc (only h.0 h.1)))
found {A = A} P (Some a) each only = by (each a)
  where
    by : Decided (P a) → Decided ((a : A) × P a)
    by (inl p) = inl (a, p)
    by (inr never) = inr (λ h. never (subst P (some-is h.0 a (sym (only h.0 h.1))) h.1))
