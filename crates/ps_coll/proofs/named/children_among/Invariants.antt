use Rattle.std.proofs.Common.{◌≡◌, take, map}
use Rattle.ps_coll.proofs.named.children_among.Given as goal

abbrev pub invariant-loop-row : goal.invariant-loop-row
invariant-loop-row l = l.nodes.items ≡ map (λ row. row.child) (take l.row-index l.row-items)
