use Rattle.ps_audit_laws.proofs.Telling.{told-each}
use Rattle.ps_audit_laws.proofs.laws.each_verdict_is_told.Goals as goal

pub returns : goal.returns
returns c = λ E who node p h. told-each E who node p h
