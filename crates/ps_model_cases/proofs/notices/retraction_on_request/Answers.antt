use Rattle.ps_model_cases.proofs.NoticesHold.{retracted-holds}
use Rattle.ps_model_cases.proofs.notices.retraction_on_request.Goals as goal

pub returns : goal.returns
returns c = retracted-holds
