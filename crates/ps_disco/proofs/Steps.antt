-- Lists that grow by an item, and the place of a node that a collection holds.
use Rattle.std.proofs.Common.{◌≡◌, ◌+◌, ◌<◌, ℕ, zero, suc, Bool, true, false, ◌&&◌, ◌||◌, List, [], ◌∷◌, Option, Some, None, refl, ap, sym, subst, ◌∙◌, take, length, get_or, arith}
use Rattle.std.specs.Prelude.{IfSome, nat_eq, slice_get}
use Rattle.std.specs.List.{list_any}
use Rattle.std.proofs.lemmas.Bool.Decides.{nat_tests}
use Rattle.ps_types.specs.declared.node.NodeKey.{NodeKey}
use Rattle.ps_types.specs.declared.rows.NodeRow.{NodeRow}
use Rattle.ps_nodes.specs.NodeRows.{IsAlone, is_there}
use Rattle.ps_disco.specs.Held.{is_at_place}

-- the item at a place
pub at_place : {X : Type 0} (xs : List X) (at : ℕ) (x : X) → at < length xs → x ≡ get_or xs at x → slice_get xs at ≡ Some x
at_place [] at x l h = absurd (omega (arith, l))
at_place (y ∷ ys) zero x l h = ap Some (sym h)
at_place (y ∷ ys) (suc at) x l h = at_place ys at x (omega (arith, l)) h

or_false : (b : Bool) → (b || false) ≡ b
or_false true = refl
or_false false = refl

or_assoc : (a b c : Bool) → (a || (b || c)) ≡ ((a || b) || c)
or_assoc true b c = refl
or_assoc false b c = refl

pub or_back : (a b : Bool) → (a || b) ≡ (b || a)
or_back true true = refl
or_back true false = refl
or_back false b = sym (or_false b)

module _ {X : Type 0} (test : X → Bool) where
  any_more : (xs : List X) (at : ℕ) (x : X) → slice_get xs at ≡ Some x → list_any test (take (suc at) xs) ≡ (list_any test (take at xs) || test x)
  any_more [] at x h = absurd (cc)
  any_more (y ∷ ys) zero x h = let e : y ≡ x = cc in or_false (test y) ∙ ap test e
  any_more (y ∷ ys) (suc at) x h = ap (λ b. test y || b) (any_more ys at x h) ∙ or_assoc (test y) (list_any test (take at ys)) (test x)

  -- one item more
  pub any_next : (xs : List X) (at : ℕ) (x : X) → slice_get xs at ≡ Some x → list_any test (take (at + 1) xs) ≡ (list_any test (take at xs) || test x)
  any_next xs at x h = let e : suc at ≡ at + 1 = omega arith in subst (λ n. list_any test (take n xs) ≡ (list_any test (take at xs) || test x)) e (any_more xs at x h)

  pub any_same : (xs : List X) (at : ℕ) (x : X) → slice_get xs at ≡ Some x → false ≡ test x → list_any test (take at xs) ≡ list_any test (take (at + 1) xs)
  any_same xs at x h f = sym (any_next xs at x h ∙ (ap (λ b. list_any test (take at xs) || b) (sym f) ∙ or_false (list_any test (take at xs))))

same_place : (at p : ℕ) → p ≡ at → nat_eq at p ≡ true
same_place at p e = grind (arith, nat_tests, e)

one_place : (at p : ℕ) → nat_eq at p ≡ true → at ≡ p
one_place at p h = grind (arith, nat_tests, h)

-- the place of a node is the one at which it stands
pub place-there : (node : NodeKey) (rows : List NodeRow) (o : Option ℕ) → IfSome o (λ at. is_there node (slice_get rows at) ≡ true) → IsAlone node rows o → (at : ℕ)
    → is_at_place at o ≡ is_there node (slice_get rows at)
place-there node rows o here alone at = by o here alone (is_there node (slice_get rows at)) refl
  where
    apart : (p : ℕ) → is_there node (slice_get rows p) ≡ true → is_there node (slice_get rows at) ≡ false → (c : Bool) → nat_eq at p ≡ c → c ≡ false
    apart p h k true e = let s : at ≡ p = one_place at p e in let t : is_there node (slice_get rows at) ≡ true = ap (λ n. is_there node (slice_get rows n)) s ∙ h in absurd (cc (k, t))
    apart p h k false e = refl

    by : (o : Option ℕ) → IfSome o (λ at. is_there node (slice_get rows at) ≡ true) → IsAlone node rows o → (b : Bool) → is_there node (slice_get rows at) ≡ b → is_at_place at o ≡ b
    by None h a true e = let s : None ≡ Some at = a at e in absurd (cc)
    by None h a false e = refl
    by (Some p) h a true e = let s : Some p ≡ Some at = a at e in let t : p ≡ at = cc in same_place at p t
    by (Some p) h a false e = apart p h e (nat_eq at p) refl

pub both_true : (a b : Bool) → b ≡ true → a ≡ (a && b)
both_true true b e = sym e
both_true false b e = refl

pub none_true : (a b : Bool) → b ≡ false → false ≡ (a && b)
none_true true b e = sym e
none_true false b e = refl
