use Rattle.std.proofs.Common.{take}
use Rattle.ps_events.specs.Parts.{Adds, asked_among}
use Rattle.ps_events.proofs.sub_events.add_others.Given as goal

abbrev pub invariant-loop-row : goal.invariant-loop-row
invariant-loop-row l = Adds (asked_among l.node l.who (take l.row-index l.rows)) l.fn.told l.told
