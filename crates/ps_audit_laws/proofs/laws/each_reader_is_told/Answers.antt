use Rattle.ps_audit_laws.proofs.Reading.{lawful-reads}
use Rattle.ps_audit_laws.proofs.laws.each_reader_is_told.Goals as goal

pub returns : goal.returns
returns c = λ E ok node row at a. lawful-reads E ok node row at a
