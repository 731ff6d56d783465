use Rattle.std.proofs.Common.{suc}
use Rattle.ps_audit_laws.specs.History.{verdicts_after}
use Rattle.ps_audit_laws.proofs.Telling.{quiet, stays}
use Rattle.ps_audit_laws.proofs.laws.each_line_tells_a_change.Goals as goal

pub returns : goal.returns
returns c = λ E who node p. (λ h. quiet E who node p h, λ e. stays (verdicts_after E who node (suc p)) (verdicts_after E who node p) e)
