use Rattle.std.proofs.Common.{◌≡◌, take}
use Rattle.ps_mirror.specs.Report.{reported_lines}
use Rattle.ps_mirror.proofs.run.report_of.Given as goal

abbrev pub invariant-loop-item : goal.invariant-loop-item
invariant-loop-item l = l.lines ≡ reported_lines (take l.item-index l.items)
