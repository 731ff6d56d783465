-- Children that are gone through from one to the next of a name.
use Rattle.std.proofs.Common.{◌≡◌, ℕ, Bool, true, false, cond, ◌==◌, List, [], ◌∷◌, ◌++◌, length, Option, Some, None, unwrap_or, option_map, refl, sym, ap, subst, ◌∙◌, append_assoc, append-nil, arith}
use Rattle.std.specs.Prelude.{is_none, is_some, not, option_and_then}
use Rattle.std.proofs.lemmas.Bool.Decides.{nat_tests}
use Rattle.ps_types.specs.declared.request.AskRow.{AskRow}
use Rattle.ps_types.specs.Namespaces.{pubsub_ns}
use Rattle.ps_types.specs.Shape.{attr_text, trees_in}
use Rattle.ps_types.specs.Tree.{Tree, Nodes, none, branch, words, is_named, child_at}
use Rattle.ps_model.specs.Grammar.{first_tree, form_in, form_after, jid_in, row_by, row_then, rows_in}
use Rattle.ps_forms.specs.Kids.{next_named}
use Rattle.ps_forms.proofs.Children.{named, found, absent}
use Rattle.ps_request.specs.Only.{only}

pair-from : {T : Type 0} (a b : T) → Some a ≡ Some b → a ≡ b
pair-from a b h = ap (λ o. unwrap_or o a) h

-- the first tree is the first of the trees
pub first-found : (n : Nodes) (u : Tree) (rest : Nodes) → first_tree n ≡ Some (u, rest) → trees_in n ≡ u ∷ trees_in rest
first-found none u rest h = absurd (cc)
first-found (branch t kids) u rest h = subst (λ (p : Tree × Nodes). t ∷ trees_in kids ≡ p.0 ∷ trees_in p.1) (pair-from (t, kids) (u, rest) h) refl
first-found (words s kids) u rest h = first-found kids u rest h

pub first-absent : (n : Nodes) → first_tree n ≡ None → trees_in n ≡ []
first-absent none h = refl
first-absent (branch t kids) h = absurd (cc)
first-absent (words s kids) h = first-absent kids h

-- one more of the trees
pub one-tree : (done all xs : List Tree) (x : Tree) (rest : List Tree) (y : Tree) (new : List Tree)
    → xs ≡ x ∷ rest → new ≡ done ++ y ∷ [] → y ≡ x → done ++ xs ≡ all → new ++ rest ≡ all
one-tree done all xs x rest y new e n m h =
    ap (λ (l : List Tree). l ++ rest) n ∙ append_assoc done (y ∷ []) rest ∙ ap (λ (v : Tree). done ++ v ∷ rest) m ∙ ap (λ (l : List Tree). done ++ l) (sym e) ∙ h

pub no-tree : (done all xs : List Tree) → xs ≡ [] → done ++ xs ≡ all → done ≡ all
no-tree done all xs e h = sym (append-nil done) ∙ ap (λ (l : List Tree). done ++ l) (sym e) ∙ h

-- what was read, before what is read of the rest
abbrev pub behind : {X : Type 0} → List X → Option (List X) → Option (List X)
behind done rest = option_map (λ more. done ++ more) rest

rows-step : (done : List AskRow) (row : AskRow) (rest : Option (List AskRow)) → behind (done ++ row ∷ []) rest ≡ behind done (row_then (Some row) rest)
rows-step done row None = refl
rows-step done row (Some rows) = ap (λ (l : List AskRow). Some l) (append_assoc done (row ∷ []) rows)

pub more-rows : (name : List ℕ) (done : List AskRow) (all : Option (List AskRow)) (ts : List Tree) (t : Tree) (rest : List Tree) (row : AskRow) (new : List AskRow)
    → ts ≡ t ∷ rest → new ≡ done ++ row ∷ [] → Some row ≡ row_by (attr_text name t) (jid_in t) → behind done (rows_in name ts) ≡ all → behind new (rows_in name rest) ≡ all
more-rows name done all ts t rest row new e n m h =
    ap (λ (l : List AskRow). behind l (rows_in name rest)) n ∙ rows-step done row (rows_in name rest) ∙ ap (λ (o : Option AskRow). behind done (row_then o (rows_in name rest))) m
    ∙ ap (λ (l : List Tree). behind done (rows_in name l)) (sym e) ∙ h

pub bad-row : (name : List ℕ) (done : List AskRow) (all : Option (List AskRow)) (ts : List Tree) (t : Tree) (rest : List Tree)
    → ts ≡ t ∷ rest → None ≡ row_by (attr_text name t) (jid_in t) → behind done (rows_in name ts) ≡ all → all ≡ None
bad-row name done all ts t rest e m h =
    sym h ∙ ap (λ (l : List Tree). behind done (rows_in name l)) e ∙ ap (λ (o : Option AskRow). behind done (row_then o (rows_in name rest))) (sym m)

pub end-rows : (name : List ℕ) (done : List AskRow) (all : Option (List AskRow)) (ts : List Tree) → ts ≡ [] → behind done (rows_in name ts) ≡ all → all ≡ Some done
end-rows name done all ts e h = sym h ∙ ap (λ (l : List Tree). behind done (rows_in name l)) e ∙ ap (λ (l : List AskRow). Some l) (append-nil done)

-- the first child of a name
child-step : (b : Bool) (name ns : List ℕ) (t : Tree) (kids : Nodes) → child_at name ns kids ≡ option_map (λ p. p.0) (next_named name ns kids)
    → cond b (Some t) (child_at name ns kids) ≡ option_map (λ p. p.0) (cond b (Some (t, kids)) (next_named name ns kids))
child-step true name ns t kids ih = refl
child-step false name ns t kids ih = ih

pub child-next : (name ns : List ℕ) (n : Nodes) → child_at name ns n ≡ option_map (λ p. p.0) (next_named name ns n)
child-next name ns none = refl
child-next name ns (branch t kids) = child-step (is_named name ns t) name ns t kids (child-next name ns kids)
child-next name ns (words s kids) = child-next name ns kids

-- and the form in it
pub form-next : (name : List ℕ) (n : Nodes) (found : Option (Tree × Nodes)) → found ≡ next_named name pubsub_ns n → option_and_then form_in (option_map (λ p. p.0) found) ≡ form_after name n
form-next name n found e = ap (λ (o : Option (Tree × Nodes)). option_and_then form_in (option_map (λ p. p.0) o)) e ∙ ap (option_and_then form_in) (sym (child-next name pubsub_ns n))

-- whether there is one tree
second-step : (r : Nodes) (second : Option (Tree × Nodes)) → first_tree r ≡ second → (t : Tree) → is_none second ≡ (length (t ∷ trees_in r) == 1)
second-step r None e t = rw (first-absent r e) refl
second-step r (Some (u, s)) e t = rw (first-found r u s e) (grind (arith, nat_tests))

pub one-only : (n r : Nodes) (t : Tree) → Some (t, r) ≡ first_tree n → is_none (first_tree r) ≡ (length (trees_in n) == 1)
one-only n r t e = second-step r (first_tree r) refl t ∙ ap (λ (l : List Tree). length l == 1) (sym (first-found n t r (sym e)))

pub none-only : (n : Nodes) → None ≡ first_tree n → false ≡ (length (trees_in n) == 1)
none-only n e = rw (first-absent n (sym e)) refl

pub is_none-mapped : {X Y : Type 0} (f : X → Y) (o : Option X) (b : Bool) → is_some o ≡ not b → b ≡ is_none (option_map f o)
is_none-mapped f None true h = refl
is_none-mapped f None false h = absurd (cc)
is_none-mapped f (Some x) true h = absurd (cc)
is_none-mapped f (Some x) false h = refl

-- the only child of a name
pub only-two : (name ns : List ℕ) (n r s : Nodes) (t u : Tree) → Some (t, r) ≡ next_named name ns n → Some (u, s) ≡ next_named name ns r → None ≡ only (named name ns n)
only-two name ns n r s t u e f = sym (ap only (found name ns n t r (sym e) ∙ ap (λ (l : List Tree). t ∷ l) (found name ns r u s (sym f))))

pub only-one : (name ns : List ℕ) (n r : Nodes) (t : Tree) → Some (t, r) ≡ next_named name ns n → None ≡ next_named name ns r → Some t ≡ only (named name ns n)
only-one name ns n r t e f = sym (ap only (found name ns n t r (sym e) ∙ ap (λ (l : List Tree). t ∷ l) (absent name ns r (sym f))))

pub only-none : (name ns : List ℕ) (n : Nodes) → None ≡ next_named name ns n → None ≡ only (named name ns n)
only-none name ns n e = sym (ap only (absent name ns n (sym e)))
