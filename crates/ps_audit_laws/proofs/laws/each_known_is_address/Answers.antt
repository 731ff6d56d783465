use Rattle.ps_audit_laws.proofs.Reading.{lawful-known}
use Rattle.ps_audit_laws.proofs.laws.each_known_is_address.Goals as goal

pub returns : goal.returns
returns c = λ E ok node row at. lawful-known E ok node row at
