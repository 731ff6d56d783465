use Rattle.std.proofs.Common.{◌≡◌, ◌≤◌}
use Rattle.ps_base.specs.Rows.{without}
use Rattle.ps_rows.specs.Standing.{IsWalking, left, standing}
use Rattle.ps_rows.proofs.walks.take_away.Given as goal

abbrev pub invariant-loop-at : goal.invariant-loop-at
invariant-loop-at g l = record {
  walk : IsWalking (g.A.Ask.passes l.ask) (g.R.Row.by l.slots.seed l.index) (g.A.Ask.seeks l.slots.seed l.ask) l.at l.slots.rows;
  others : without (g.A.Ask.passes l.ask) (standing l.slots.rows) ≡ without (g.A.Ask.passes l.ask) (standing l.fn.slots.rows);
  seed : l.slots.seed ≡ l.fn.slots.seed;
  room : l.fn.slots.spare ≤ l.slots.spare;
}

abbrev pub decreases-loop-at : goal.decreases-loop-at
decreases-loop-at g l = left l.at l.slots.rows
