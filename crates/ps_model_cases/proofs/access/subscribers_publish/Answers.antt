use Rattle.ps_model_cases.proofs.AccessHold.{subscribers-holds}
use Rattle.ps_model_cases.proofs.access.subscribers_publish.Goals as goal

pub returns : goal.returns
returns c = subscribers-holds
