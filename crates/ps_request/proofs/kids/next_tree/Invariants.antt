use Rattle.std.proofs.Common.{◌≡◌, drop}
use Rattle.ps_types.specs.Elem.{nodes}
use Rattle.ps_model.specs.Grammar.{first_tree}
use Rattle.ps_request.proofs.kids.next_tree.Given as goal

abbrev pub invariant-loop-i : goal.invariant-loop-i
invariant-loop-i l = first_tree (nodes (drop l.i l.kids)) ≡ first_tree (nodes l.kids)
