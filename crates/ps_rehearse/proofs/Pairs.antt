-- Two of a list, and the numbers of the lines of both.
use Rattle.std.proofs.Common.{◌≡◌, ℕ, ◌+◌, ◌<◌, ◌≤◌, suc, List, [], ◌∷◌, length, get_or, refl, sym, ap, ◌∙◌, arith}
use Rattle.ps_types.specs.Lines.{whole_lines}
use Rattle.ps_types.specs.Tree.{Tree}
use Rattle.std.specs.Prelude.{Bool}
use Rattle.ps_rehearse_lines.specs.Counted.{how_many}

pub are-two : {X : Type 0} (xs : List X) (a b : X) → 2 ≤ length xs → length xs < 3 → a ≡ get_or xs 0 a → b ≡ get_or xs 1 b → xs ≡ a ∷ b ∷ []
are-two [] a b least most first second = absurd (omega (arith, least))
are-two (x ∷ []) a b least most first second = absurd (omega (arith, least))
are-two (x ∷ y ∷ []) a b least most first second = λ i. sym first i ∷ sym second i ∷ []
are-two (x ∷ y ∷ z ∷ xs) a b least most first second = absurd (omega (arith, most))

pub both-counted : (test : Tree → Bool) (m n : ℕ) (one two a b : List ℕ) → m ≡ how_many test (whole_lines one) → n ≡ how_many test (whole_lines two) → one ≡ a → two ≡ b
    → m + n ≡ how_many test (whole_lines a) + how_many test (whole_lines b)
both-counted test m n one two a b p q x y =
    let p' : m ≡ how_many test (whole_lines a) = p ∙ ap (λ l. how_many test (whole_lines l)) x in
    let q' : n ≡ how_many test (whole_lines b) = q ∙ ap (λ l. how_many test (whole_lines l)) y in
    ap (λ k. k + n) p' ∙ ap (λ k. how_many test (whole_lines a) + k) q'
