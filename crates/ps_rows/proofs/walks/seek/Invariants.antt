use Rattle.ps_rows.specs.Standing.{IsWalking, left}
use Rattle.ps_rows.proofs.walks.seek.Given as goal

abbrev pub invariant-loop-at : goal.invariant-loop-at
invariant-loop-at g l = IsWalking (g.A.Ask.passes l.ask) (g.R.Row.by l.slots.seed l.index) (g.A.Ask.seeks l.slots.seed l.ask) l.at l.slots.rows

abbrev pub decreases-loop-at : goal.decreases-loop-at
decreases-loop-at g l = left l.at l.slots.rows
