use Rattle.std.proofs.Common.{◌≡◌, map, take}
use Rattle.ps_audit_run.specs.Report.{ended, known_text}
use Rattle.ps_audit_run.proofs.running.listed.Given as goal

abbrev pub invariant-known : goal.invariant-known
invariant-known l = l.lines ≡ map (λ line. ended (known_text line)) (take l.line-index l.known)
