-- Lists of trees by address: what is put where its address belongs.
use Rattle.std.proofs.Common.{◌≡◌, ℕ, List, [], ◌∷◌, ◌++◌, Option, Some, None, map, refl, ap, ◌∙◌}
use Rattle.std.specs.List.{AllByRecursion as Each, cons_option}
use Rattle.std.specs.Prelude.{flat_map, option_map}
use Rattle.std.specs.Ordering.{match_ordering, nat_cmp, ordering_reverse}
use Rattle.std.specs.Cmp.Lexicographic.{slice_cmp, nat_list_cmp_total}
use Rattle.std.specs.declared.cmp.Ordering.{Ordering}
use Rattle.std.specs.declared.cmp.Ordering.TheVariants.{Less, Equal, Greater}
use Rattle.ps_types.specs.Address.{jid_text}
use Rattle.ps_types.specs.Tree.{Tree}
use Rattle.ps_types.specs.declared.jid.Jid.{Jid}
use Rattle.ps_fanout.specs.Told.{given_to}
use Rattle.ps_model.proofs.Ordered.{Ascend, text_cmp}
use Rattle.ps_notices.specs.Due.{arranged, put_due}

-- those before are put among those that stand
abbrev pub onto : List (Jid × Tree) → List (Jid × Tree) → List (Jid × Tree)
onto [] ys = ys
onto (d ∷ ds) ys = put_due d (onto ds ys)

pub arranged-append : (xs ys : List (Jid × Tree)) → arranged (xs ++ ys) ≡ onto xs (arranged ys)
arranged-append [] ys = refl
arranged-append (x ∷ xs) ys = ap (put_due x) (arranged-append xs ys)

-- the trees of one address
abbrev pub all_of : Jid → List Tree → List (Jid × Tree)
all_of x ts = map (λ (t : Tree). (x, t)) ts

-- each is after the address
abbrev After : Jid → List (Jid × Tree) → Type 0
After x ds = Each (λ d. text_cmp x d.0 ≡ Less) ds

put-past : (x : Jid) (d : Jid × Tree) (ts : List Tree) (more : List (Jid × Tree)) → text_cmp x d.0 ≡ Less → put_due d (all_of x ts ++ more) ≡ all_of x ts ++ put_due d more
put-past x d [] more e = refl
put-past x d (t ∷ ts) more e =
    let turned : text_cmp d.0 x ≡ Greater = nat_list_cmp_total.antisymm (jid_text d.0) (jid_text x) ∙ ap ordering_reverse e in
    rw turned (ap (λ (l : List (Jid × Tree)). (x, t) ∷ l) (put-past x d ts more e))

onto-past : (x : Jid) (ds : List (Jid × Tree)) (ts : List Tree) (more : List (Jid × Tree)) → After x ds → onto ds (all_of x ts ++ more) ≡ all_of x ts ++ onto ds more
onto-past x [] ts more far = refl
onto-past x (d ∷ ds) ts more far = ap (put_due d) (onto-past x ds ts more far.1) ∙ put-past x d ts (onto ds more) far.0

not-after : (t : List ℕ) → slice_cmp nat_cmp t t ≡ Greater → ⊥
not-after t e = let turned : slice_cmp nat_cmp t t ≡ Less = nat_list_cmp_total.antisymm t t ∙ ap ordering_reverse e in cc (e, turned)

-- what is of the address goes before all that is of it
put-first : (x : Jid) (t : Tree) (ts : List Tree) (more : List (Jid × Tree)) → After x more → put_due (x, t) (all_of x ts ++ more) ≡ (x, t) ∷ all_of x ts ++ more
put-first x t [] [] far = refl
put-first x t [] (d ∷ more) far = rw far.0 refl
put-first x t (u ∷ ts) more far = at (text_cmp x x) refl
  where
    at : (o : Ordering) → text_cmp x x ≡ o
        → match_ordering o ((x, t) ∷ (x, u) ∷ all_of x ts ++ more) ((x, t) ∷ (x, u) ∷ all_of x ts ++ more) ((x, u) ∷ put_due (x, t) (all_of x ts ++ more)) ≡ (x, t) ∷ (x, u) ∷ all_of x ts ++ more
    at Less e = refl
    at Equal e = refl
    at Greater e = absurd (not-after (jid_text x) e)

each-append : (P : (Jid × Tree) → Type 0) (xs ys : List (Jid × Tree)) → Each P xs → Each P ys → Each P (xs ++ ys)
each-append P [] ys ps qs = qs
each-append P (x ∷ xs) ys ps qs = (ps.0, each-append P xs ys ps.1 qs)

each-of : (x y : Jid) (ts : List Tree) → text_cmp x y ≡ Less → After x (all_of y ts)
each-of x y [] e = tt
each-of x y (t ∷ ts) e = (e, each-of x y ts e)

each-given : (x : Jid) (g : Jid → Option Tree) (ys : List Jid) → Each (λ y. text_cmp x y ≡ Less) ys → After x (given_to g ys)
each-given x g [] far = tt
each-given x g (y ∷ ys) far = at (g y) (each-given x g ys far.1)
  where
    at : (o : Option Tree) → After x (given_to g ys) → After x (cons_option (option_map (λ (t : Tree). (y, t)) o) (given_to g ys))
    at None more = more
    at (Some t) more = (far.0, more)

each-block : (x : Jid) (has : Jid → List Tree) (ys : List Jid) → Each (λ y. text_cmp x y ≡ Less) ys → After x (flat_map (λ who. all_of who (has who)) ys)
each-block x has [] far = tt
each-block x has (y ∷ ys) far =
    each-append (λ d. text_cmp x d.0 ≡ Less) (all_of y (has y)) (flat_map (λ who. all_of who (has who)) ys) (each-of x y (has y) far.0) (each-block x has ys far.1)

-- what is given is put before what each address has
pub given-onto : (g : Jid → Option Tree) (has : Jid → List Tree) (xs : List Jid) → Ascend xs
    → onto (given_to g xs) (flat_map (λ who. all_of who (has who)) xs) ≡ flat_map (λ who. all_of who (cons_option (g who) (has who))) xs
given-onto g has [] is = refl
given-onto g has (x ∷ xs) is = at (g x) (given-onto g has xs is.1)
  where
    past : onto (given_to g xs) (flat_map (λ who. all_of who (has who)) xs) ≡ flat_map (λ who. all_of who (cons_option (g who) (has who))) xs
        → onto (given_to g xs) (all_of x (has x) ++ flat_map (λ who. all_of who (has who)) xs) ≡ all_of x (has x) ++ flat_map (λ who. all_of who (cons_option (g who) (has who))) xs
    past more = onto-past x (given_to g xs) (has x) (flat_map (λ who. all_of who (has who)) xs) (each-given x g xs is.0) ∙ ap (λ (l : List (Jid × Tree)). all_of x (has x) ++ l) more

    at : (o : Option Tree) → onto (given_to g xs) (flat_map (λ who. all_of who (has who)) xs) ≡ flat_map (λ who. all_of who (cons_option (g who) (has who))) xs
        → onto (cons_option (option_map (λ (t : Tree). (x, t)) o) (given_to g xs)) (all_of x (has x) ++ flat_map (λ who. all_of who (has who)) xs)
        ≡ all_of x (cons_option o (has x)) ++ flat_map (λ who. all_of who (cons_option (g who) (has who))) xs
    at None more = past more
    at (Some t) more =
        ap (put_due (x, t)) (past more)
        ∙ put-first x t (has x) (flat_map (λ who. all_of who (cons_option (g who) (has who))) xs) (each-block x (λ who. cons_option (g who) (has who)) xs is.0)
