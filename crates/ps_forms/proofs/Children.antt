-- Children that are gone through from one to the next of a name.
use Rattle.std.proofs.Common.{◌≡◌, ℕ, Bool, true, false, cond, List, [], ◌∷◌, ◌++◌, Option, Some, None, unwrap_or, filter, map, refl, sym, ap, subst, ◌∙◌, append_assoc, append-nil}
use Rattle.std.specs.List.{filter_map, cons_option}
use Rattle.ps_types.specs.Shape.{trees_in}
use Rattle.ps_types.specs.Tree.{Tree, Nodes, none, branch, words, is_named}
use Rattle.ps_forms.specs.Kids.{next_named}

abbrev pub named : List ℕ → List ℕ → Nodes → List Tree
named name ns n = filter (is_named name ns) (trees_in n)

pair-from : {T : Type 0} (a b : T) → Some a ≡ Some b → a ≡ b
pair-from a b h = ap (λ o. unwrap_or o a) h

found-step : (b : Bool) (name ns : List ℕ) (t : Tree) (kids : Nodes) (u : Tree) (rest : Nodes)
    → (next_named name ns kids ≡ Some (u, rest) → named name ns kids ≡ u ∷ named name ns rest)
    → cond b (Some (t, kids)) (next_named name ns kids) ≡ Some (u, rest) → cond b (t ∷ named name ns kids) (named name ns kids) ≡ u ∷ named name ns rest
found-step true name ns t kids u rest ih h = subst (λ (p : Tree × Nodes). t ∷ named name ns kids ≡ p.0 ∷ named name ns p.1) (pair-from (t, kids) (u, rest) h) refl
found-step false name ns t kids u rest ih h = ih h

-- the next child of the name is the first of those of the name
pub found : (name ns : List ℕ) (n : Nodes) (u : Tree) (rest : Nodes) → next_named name ns n ≡ Some (u, rest) → named name ns n ≡ u ∷ named name ns rest
found name ns none u rest h = absurd (cc)
found name ns (branch t kids) u rest h = found-step (is_named name ns t) name ns t kids u rest (found name ns kids u rest) h
found name ns (words s kids) u rest h = found name ns kids u rest h

absent-step : (b : Bool) (name ns : List ℕ) (t : Tree) (kids : Nodes)
    → (next_named name ns kids ≡ None → named name ns kids ≡ [])
    → cond b (Some (t, kids)) (next_named name ns kids) ≡ None → cond b (t ∷ named name ns kids) (named name ns kids) ≡ []
absent-step true name ns t kids ih h = absurd (cc)
absent-step false name ns t kids ih h = ih h

pub absent : (name ns : List ℕ) (n : Nodes) → next_named name ns n ≡ None → named name ns n ≡ []
absent name ns none h = refl
absent name ns (branch t kids) h = absent-step (is_named name ns t) name ns t kids (absent name ns kids) h
absent name ns (words s kids) h = absent name ns kids h

-- one more of what is made of each
pub one-more : {X Y : Type 0} (f : X → Y) (done all : List Y) (xs : List X) (x : X) (rest : List X) (y : Y) (new : List Y)
    → xs ≡ x ∷ rest → new ≡ done ++ y ∷ [] → y ≡ f x → done ++ map f xs ≡ all → new ++ map f rest ≡ all
one-more f done all xs x rest y new e n m h =
    ap (λ (l : List _). l ++ map f rest) n ∙ append_assoc done (y ∷ []) (map f rest) ∙ ap (λ v. done ++ v ∷ map f rest) m ∙ ap (λ (l : List _). done ++ map f l) (sym e) ∙ h

pub no-more : {X Y : Type 0} (f : X → Y) (done all : List Y) (xs : List X) → xs ≡ [] → done ++ map f xs ≡ all → done ≡ all
no-more f done all xs e h = sym (append-nil done) ∙ ap (λ (l : List _). done ++ map f l) (sym e) ∙ h

joined : {Y : Type 0} (o : Option Y) (ys : List Y) → cons_option o [] ++ ys ≡ cons_option o ys
joined None ys = refl
joined (Some y) ys = refl

-- the same, where nothing is made of some
pub one-kept : {X Y : Type 0} (f : X → Option Y) (done all : List Y) (xs : List X) (x : X) (rest : List X) (new : List Y)
    → xs ≡ x ∷ rest → new ≡ done ++ cons_option (f x) [] → done ++ filter_map f xs ≡ all → new ++ filter_map f rest ≡ all
one-kept f done all xs x rest new e n h =
    ap (λ (l : List _). l ++ filter_map f rest) n ∙ append_assoc done (cons_option (f x) []) (filter_map f rest) ∙ ap (λ (l : List _). done ++ l) (joined (f x) (filter_map f rest))
    ∙ ap (λ (l : List _). done ++ filter_map f l) (sym e) ∙ h

pub none-kept : {X Y : Type 0} (f : X → Option Y) (done all : List Y) (xs : List X) → xs ≡ [] → done ++ filter_map f xs ≡ all → done ≡ all
none-kept f done all xs e h = sym (append-nil done) ∙ ap (λ (l : List _). done ++ filter_map f l) (sym e) ∙ h
