use Rattle.std.proofs.Common.{take}
use Rattle.ps_events.specs.Parts.{AreThose}
use Rattle.ps_events.proofs.row_events.those_of.Given as goal

abbrev pub invariant-loop-row : goal.invariant-loop-row
invariant-loop-row l = AreThose l.node (take l.row-index l.rows) l.subs.rows l.few.rows
