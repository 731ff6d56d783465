use Rattle.ps_model.proofs.TheLaws.{the-laws}
use Rattle.ps_model.proofs.machine_laws.service_keeps_the_laws.Goals as goal

pub returns : goal.returns
returns c = record { laws = the-laws }
