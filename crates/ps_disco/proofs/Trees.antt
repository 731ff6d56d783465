-- Children that are trees.
use Rattle.std.proofs.Common.{◌≡◌, List, [], ◌∷◌, refl, ap, map}
use Rattle.ps_types.specs.declared.tree.Child.TheVariants as child
use Rattle.ps_types.specs.Elem.{nodes}
use Rattle.ps_types.specs.Shape.{holding}
use Rattle.ps_types.specs.Tree.{Tree, branch}

module _ {X : Type 0} (tree_of : X → Tree) where
  -- children made of a list hold its trees
  pub nodes-made : (xs : List X) → nodes (map (λ x. child.Tree (tree_of x)) xs) ≡ holding (map tree_of xs)
  nodes-made [] = refl
  nodes-made (x ∷ xs) = ap (branch (tree_of x)) (nodes-made xs)
