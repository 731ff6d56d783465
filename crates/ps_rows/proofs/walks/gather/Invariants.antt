use Rattle.ps_rows.specs.Standing.{IsGathering, left}
use Rattle.ps_rows.proofs.walks.gather.Given as goal

abbrev pub invariant-loop-at : goal.invariant-loop-at
invariant-loop-at g l = IsGathering g.R.Clone.is_clone (g.A.Ask.passes l.ask) (g.R.Row.by l.slots.seed l.index) (g.A.Ask.seeks l.slots.seed l.ask) l.at l.slots.rows l.rows.items

abbrev pub decreases-loop-at : goal.decreases-loop-at
decreases-loop-at g l = left l.at l.slots.rows
