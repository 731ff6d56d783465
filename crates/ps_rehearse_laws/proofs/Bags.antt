-- Two lists that have each address equally often are equally long.
use Rattle.std.proofs.Common.{◌≡◌, ℕ, suc, ◌+◌, ◌≤◌, Bool, true, false, cond, List, [], ◌∷◌, refl, sym, ap, ◌∙◌, length, arith}
use Rattle.std.specs.Prelude.{count_by}
use Rattle.ps_base.specs.Rows.{without_first}
use Rattle.ps_base.proofs.Rows.{count_by-cons}
use Rattle.ps_types.specs.Same.{same_jid}
use Rattle.ps_types.specs.declared.jid.Jid.{Jid}
use Rattle.ps_types.proofs.Same.{same_jid-Decides}

-- how often the address is there
abbrev pub times : Jid → List Jid → ℕ
times a xs = count_by (same_jid a) xs

abbrev pub unit : Bool → ℕ
unit b = cond b 1 0

pub times-cons : (a x : Jid) (xs : List Jid) → times a (x ∷ xs) ≡ unit (same_jid a x) + times a xs
times-cons a x xs = count_by-cons (same_jid a) x xs

record Taken (x : Jid) (ys zs : List Jid) : Type 0 where
  size : length ys ≡ suc (length zs)
  times : (a : Jid) → times a ys ≡ unit (same_jid a x) + times a zs

taken : (x : Jid) (ys : List Jid) → 1 ≤ times x ys → Taken x ys (without_first (same_jid x) ys)
taken x [] some = absurd (omega (arith, some))
taken x (y ∷ ys) some = by (same_jid x y) refl (λ few. taken x ys few)
  where
    by : (b : Bool) → same_jid x y ≡ b → (1 ≤ times x ys → Taken x ys (without_first (same_jid x) ys)) → Taken x (y ∷ ys) (cond b ys (y ∷ without_first (same_jid x) ys))
    by true e more =
        let same : x ≡ y = (same_jid-Decides x y).0 e in
        record { size = refl; times = λ a. times-cons a y ys ∙ ap (λ (z : Jid). unit (same_jid a z) + times a ys) (sym same) }
    by false e more =
        let h = times-cons x y ys in
        let z = ap unit e in
        let is = more (omega (arith, some, h, z)) in
        record {
          size = ap suc is.size;
          times = λ a. (let p = times-cons a y ys in let q = is.times a in let r = times-cons a y (without_first (same_jid x) ys) in omega (arith, p, q, r));
        }

pub same-length : (xs ys : List Jid) → ((a : Jid) → times a xs ≡ times a ys) → length xs ≡ length ys
same-length [] [] same = refl
same-length [] (y ∷ ys) same =
    let h = same y in
    let p = times-cons y y ys in
    let z = ap unit ((same_jid-Decides y y).1 refl) in
    absurd (omega (arith, h, p, z))
same-length (x ∷ xs) ys same =
    let h = same x in
    let p = times-cons x x xs in
    let z = ap unit ((same_jid-Decides x x).1 refl) in
    let is = taken x ys (omega (arith, h, p, z)) in
    let rest = same-length xs (without_first (same_jid x) ys) (λ a. (let q = same a in let r = times-cons a x xs in let t = is.times a in omega (arith, q, r, t))) in
    let s = is.size in
    omega (arith, rest, s)
