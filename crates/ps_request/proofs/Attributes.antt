-- What an attribute of a made tree reads as.
use Rattle.std.proofs.Common.{◌≡◌, ℕ, Bool, true, false, cond, List, [], ◌∷◌, Option, Some, None, refl, ap, subst, ◌∙◌}
use Rattle.std.specs.Prelude.{unwrap_or, if◌then◌else◌}
use Rattle.std.specs.Str.{bytes_eq}
use Rattle.std.specs.Ordering.{nat_cmp, match_ordering, ordering_reverse}
use Rattle.std.specs.Cmp.Lexicographic.{slice_cmp, nat_list_cmp_total}
use Rattle.std.specs.declared.cmp.Ordering.{Ordering}
use Rattle.std.specs.declared.cmp.Ordering.TheVariants.{Less, Equal, Greater}
use Rattle.std.proofs.lemmas.Map.Lookups.{exact_bytes}
use Rattle.std.proofs.lemmas.Slice.Eq.{bytes_eq-Decides}
use Rattle.ps_types.specs.declared.attrs.Attr.{Attr}
use Rattle.ps_types.specs.Attrs.{attr, value_of, with_attr}
use Rattle.ps_types.specs.Shape.{attr_text, attr_pair, attrs_with, element}
use Rattle.ps_types.specs.Tree.{Tree}

pub same : (text : List ℕ) → bytes_eq text text ≡ true
same text = (bytes_eq-Decides text text).1 refl

equal-itself : (text : List ℕ) (o : Ordering) → slice_cmp nat_cmp text text ≡ o → o ≡ Greater → (Less ≡ Greater)
equal-itself text o e f =
    let turned = nat_list_cmp_total.antisymm text text in
    let greater : slice_cmp nat_cmp text text ≡ Greater = e ∙ f in
    let less : slice_cmp nat_cmp text text ≡ Less = turned ∙ ap ordering_reverse greater in
    cc

greater-apart : (name other : List ℕ) → slice_cmp nat_cmp name other ≡ Greater → (b : Bool) → bytes_eq other name ≡ b → b ≡ false
greater-apart name other e true f =
    let is = (bytes_eq-Decides other name).0 f in
    let itself = equal-itself name Greater (subst (λ x. slice_cmp nat_cmp name x ≡ Greater) is e) refl in
    cc
greater-apart name other e false f = refl

own-step : (name value : List ℕ) (a : Attr) (rest : List Attr) (o : Ordering) → slice_cmp nat_cmp name a.name ≡ o → value_of name (with_attr name value rest) ≡ Some value
    → value_of name (match_ordering o (attr name value ∷ a ∷ rest) (attr name value ∷ rest) (a ∷ with_attr name value rest)) ≡ Some value
own-step name value a rest Less e more = rw (same name) refl
own-step name value a rest Equal e more = rw (same name) refl
own-step name value a rest Greater e more = rw (greater-apart name a.name e (bytes_eq a.name name) refl) more

with-own : (name value : List ℕ) (attrs : List Attr) → value_of name (with_attr name value attrs) ≡ Some value
with-own name value [] = rw (same name) refl
with-own name value (a ∷ rest) = own-step name value a rest (slice_cmp nat_cmp name a.name) refl (with-own name value rest)

other-step : (name other value : List ℕ) (a : Attr) (rest : List Attr) (o : Ordering) → bytes_eq other name ≡ false → slice_cmp nat_cmp other a.name ≡ o
    → value_of name (with_attr other value rest) ≡ value_of name rest
    → value_of name (match_ordering o (attr other value ∷ a ∷ rest) (attr other value ∷ rest) (a ∷ with_attr other value rest)) ≡ value_of name (a ∷ rest)
other-step name other value a rest Less h e more = rw h refl
other-step name other value a rest Equal h e more = let gone : bytes_eq a.name name ≡ false = subst (λ x. bytes_eq x name ≡ false) (exact_bytes other a.name e) h in rw (h, gone) refl
other-step name other value a rest Greater h e more = ap (λ (r : Option (List ℕ)). cond (bytes_eq a.name name) (Some a.value) r) more

with-other : (name other value : List ℕ) (attrs : List Attr) → bytes_eq other name ≡ false → value_of name (with_attr other value attrs) ≡ value_of name attrs
with-other name other value [] h = rw h refl
with-other name other value (a ∷ rest) h = other-step name other value a rest (slice_cmp nat_cmp other a.name) h refl (with-other name other value rest h)

-- a text, or the rest where it is empty
abbrev pub pick : List ℕ → List ℕ → List ℕ
pick [] rest = rest
pick (x ∷ text) rest = x ∷ text

pub pick-none : (text : List ℕ) → pick text [] ≡ text
pick-none [] = refl
pick-none (x ∷ text) = refl

-- the value of a name among pairs
abbrev pub pair_text : List ℕ → List (List ℕ × List ℕ) → List ℕ
pair_text name [] = []
pair_text name (p ∷ ps) = cond (bytes_eq p.0 name) (pick p.1 (pair_text name ps)) (pair_text name ps)

pair-step : (name other value : List ℕ) (attrs : List Attr) (text : List ℕ) → unwrap_or (value_of name attrs) [] ≡ text
    → unwrap_or (value_of name (attr_pair (other, value) attrs)) [] ≡ cond (bytes_eq other name) (pick value text) text
pair-step name other [] attrs text h = by (bytes_eq other name)
  where
    by : (b : Bool) → unwrap_or (value_of name attrs) [] ≡ cond b text text
    by true = h
    by false = h
pair-step name other (x ∷ value) attrs text h = by (bytes_eq other name) refl
  where
    by : (b : Bool) → bytes_eq other name ≡ b → unwrap_or (value_of name (with_attr other (x ∷ value) attrs)) [] ≡ cond b (x ∷ value) text
    by true e =
        let is = (bytes_eq-Decides other name).0 e in
        let own : value_of name (with_attr other (x ∷ value) attrs) ≡ Some (x ∷ value) = subst (λ n. value_of n (with_attr other (x ∷ value) attrs) ≡ Some (x ∷ value)) is
        (with-own other (x ∷ value) attrs) in
        ap (λ (o : Option (List ℕ)). unwrap_or o []) own
    by false e = ap (λ (o : Option (List ℕ)). unwrap_or o []) (with-other name other (x ∷ value) attrs e) ∙ h

pairs-text : (name : List ℕ) (ps : List (List ℕ × List ℕ)) → unwrap_or (value_of name (attrs_with ps)) [] ≡ pair_text name ps
pairs-text name [] = refl
pairs-text name (p ∷ ps) = pair-step name p.0 p.1 (attrs_with ps) (pair_text name ps) (pairs-text name ps)

-- the value of an attribute of a made tree
pub value-is : (name own ns : List ℕ) (ps : List (List ℕ × List ℕ)) (kids : List Tree) → attr_text name (element own ns ps kids) ≡ pair_text name ps
value-is name own ns ps kids = pairs-text name ps
