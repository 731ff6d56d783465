-- `pubsub` about a node, by the children that its part has.
use Rattle.std.specs.Prelude.{ℕ, List, [], ◌∷◌, codes}
use Rattle.ps_types.specs.Shape.{attrs_with}
use Rattle.ps_types.specs.Tree.{Tree, tree, Nodes, none, branch}

abbrev pub about_nodes : List ℕ → List ℕ → List ℕ → Nodes → Tree
about_nodes ns name node kids = tree (codes "pubsub") ns [] (branch (tree name ns (attrs_with ((codes "node", node) ∷ [])) kids) none)
