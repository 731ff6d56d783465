use Rattle.std.proofs.Common.{◌≡◌, take, map}
use Rattle.ps_presence.proofs.resources.listed.Given as goal

abbrev pub invariant-loop-row : goal.invariant-loop-row
invariant-loop-row l = l.jids.items ≡ map (λ row. row.who) (take l.row-index l.row-items)
