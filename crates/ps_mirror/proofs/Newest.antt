-- The oldest items go one by one.
use Rattle.std.proofs.Common.{◌≡◌, ℕ, suc, ◌+◌, ◌<◌, ◌≤◌, true, List, [], ◌∷◌, length, refl, sym, ap, subst, ◌∙◌, arith}
use Rattle.std.specs.Prelude.{count_by, nat_le, remove}
use Rattle.std.proofs.lemmas.Bool.Decides.{nat_tests}
use Rattle.ps_base.specs.Rows.{keep_newest}
use Rattle.ps_base.proofs.Rows.{count_by-cons, keep_newest-all}
use Rattle.ps_mirror.specs.declared.copied.Copied.{Copied}
use Rattle.ps_mirror.specs.Copy.{each_one}

each-counts : (xs : List Copied) → count_by each_one xs ≡ length xs
each-counts [] = refl
each-counts (x ∷ xs) = count_by-cons each_one x xs ∙ ap (λ k. 1 + k) (each-counts xs) ∙ (let e : 1 + length xs ≡ suc (length xs) = omega arith in e)

pub oldest-goes : (max : ℕ) (xs : List Copied) → max < length xs → keep_newest each_one max (remove xs 0) ≡ keep_newest each_one max xs
oldest-goes max [] over = absurd (let no : 0 < 0 = omega (arith, over) in omega (arith, no))
oldest-goes max (x ∷ xs) over =
    let more : max ≤ length xs = omega (arith, over) in
    let full : nat_le max (length xs) ≡ true = grind (arith, nat_tests, more) in
    let counts = each-counts xs in
    rw (counts, full) refl

pub few-stay : (max : ℕ) (xs : List Copied) → length xs ≤ max → keep_newest each_one max xs ≡ xs
few-stay max xs few = keep_newest-all each_one max xs (subst (λ k. k ≤ max) (sym (each-counts xs)) few)
