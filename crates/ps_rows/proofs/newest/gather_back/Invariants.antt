use Rattle.ps_rows.specs.Newest.{IsGatheringBack}
use Rattle.ps_rows.specs.Standing.{left_back}
use Rattle.ps_rows.proofs.newest.gather_back.Given as goal

abbrev pub invariant-loop-at : goal.invariant-loop-at
invariant-loop-at g l = IsGatheringBack g.R.Clone.is_clone (g.A.Ask.passes l.ask) (g.R.Row.by l.slots.seed l.index) (g.A.Ask.seeks l.slots.seed l.ask) l.most l.at l.slots.rows l.rows.items

abbrev pub decreases-loop-at : goal.decreases-loop-at
decreases-loop-at g l = left_back l.at
