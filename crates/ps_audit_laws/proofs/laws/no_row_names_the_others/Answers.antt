use Rattle.ps_audit_laws.proofs.Reading.{none-reads}
use Rattle.ps_audit_laws.proofs.laws.no_row_names_the_others.Goals as goal

pub returns : goal.returns
returns c = λ book node row at a h. none-reads book node row at a h
