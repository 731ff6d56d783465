use Rattle.std.proofs.Common.{◌≡◌, ◌++◌, length}
use Rattle.ps_types.specs.Elem.{nodes}
use Rattle.ps_types.specs.Shape.{trees_in, trees_of}
use Rattle.ps_request.proofs.kids.copies_of.Given as goal

abbrev pub invariant-loop-tree : goal.invariant-loop-tree
invariant-loop-tree l = l.trees ++ trees_in (nodes l.rest) ≡ trees_of l.elem

abbrev pub decreases-loop-tree : goal.decreases-loop-tree
decreases-loop-tree l = length l.rest
