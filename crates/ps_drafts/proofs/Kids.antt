-- Two trees as the only children.
use Rattle.std.proofs.Common.{◌≡◌, List, [], ◌∷◌, ◌++◌, refl, sym, ap, ◌∙◌}
use Rattle.ps_types.specs.Elem.{nodes}
use Rattle.ps_types.specs.Tree.{Tree, Nodes, none, branch, words}
use Rattle.ps_types.specs.declared.tree.Child.{Child}
use Rattle.ps_types.specs.declared.tree.Child.TheVariants as child

more_nodes : Nodes → Nodes → Nodes
more_nodes none more = more
more_nodes (branch t kids) more = branch t (more_nodes kids more)
more_nodes (words s kids) more = words s (more_nodes kids more)

nodes-append : (xs ys : List Child) → nodes (xs ++ ys) ≡ more_nodes (nodes xs) (nodes ys)
unfolding more_nodes
nodes-append [] ys = refl
nodes-append (child.Tree t ∷ xs) ys = ap (λ (n : Nodes). branch t n) (nodes-append xs ys)
nodes-append (child.Words s ∷ xs) ys = ap (λ (n : Nodes). words s n) (nodes-append xs ys)

pub two-kids : (kids both : List Child) (first last : Tree) (behind : Nodes) → nodes kids ≡ branch first none → both ≡ kids ++ child.Tree last ∷ [] → behind ≡ branch last none
    → nodes both ≡ branch first behind
unfolding more_nodes
two-kids kids both first last behind one two is =
    ap nodes two ∙ nodes-append kids (child.Tree last ∷ []) ∙ ap (λ (n : Nodes). more_nodes n (branch last none)) one ∙ ap (λ (n : Nodes). branch first n) (sym is)
