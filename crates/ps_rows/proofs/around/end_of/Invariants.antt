use Rattle.ps_rows.specs.Around.{IsEnding}
use Rattle.ps_rows.proofs.around.end_of.Given as goal

abbrev pub invariant-loop-at : goal.invariant-loop-at
invariant-loop-at g l = IsEnding (g.A.Ask.passes l.ask) l.slots.rows l.at l.tail

abbrev pub decreases-loop-at : goal.decreases-loop-at
decreases-loop-at g l = l.at
