use Rattle.ps_rows.specs.Standing.{IsWalkingBack, left_back}
use Rattle.ps_rows.proofs.walks.seek_last.Given as goal

abbrev pub invariant-loop-at : goal.invariant-loop-at
invariant-loop-at g l = IsWalkingBack (g.A.Ask.passes l.ask) (g.R.Row.by l.slots.seed l.index) (g.A.Ask.seeks l.slots.seed l.ask) l.at l.slots.rows

abbrev pub decreases-loop-at : goal.decreases-loop-at
decreases-loop-at g l = left_back l.at
