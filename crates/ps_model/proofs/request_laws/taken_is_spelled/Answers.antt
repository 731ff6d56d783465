use Rattle.ps_model.proofs.AskedStanza.{taken-spelled}
use Rattle.ps_model.proofs.request_laws.taken_is_spelled.Goals as goal

pub returns : goal.returns
returns c = λ host service t u r h. taken-spelled host service t u r h
