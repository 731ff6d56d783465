use Rattle.std.proofs.Common.{sym}
use Rattle.ps_types.specs.Elem.{nodes}
use Rattle.ps_request.proofs.Children.{first-found, first-absent, one-tree, no-tree}
use Rattle.ps_request.proofs.kids.copies_of.Goals as goal

pub loop-tree-preserved : goal.loop-tree-preserved
loop-tree-preserved c =
    one-tree c.loop-tree.trees _ _ _ _ _ _ (first-found (nodes c.loop-tree.rest.now) c.in-Some.tree.now (nodes c.in-Some.after.now) (sym c.in-Some.ensures.next))
    c.in_ok-push.ensures.ok c.in_ok-clone.ensures.cases c.loop-tree.invariant

pub returns : goal.returns
returns c = no-tree c.loop-tree.trees _ _ (first-absent (nodes c.loop-tree.rest.now) (sym c.in_default.ensures.next)) c.loop-tree.invariant
