use Rattle.std.proofs.Common.{◌≡◌, take}
use Rattle.ps_audit_run.specs.Report.{history_report}
use Rattle.ps_audit_run.proofs.running.history_lines.Given as goal

abbrev pub invariant-history : goal.invariant-history
invariant-history l = l.lines ≡ history_report (take l.line-index l.history)
