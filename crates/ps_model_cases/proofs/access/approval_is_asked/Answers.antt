use Rattle.ps_model_cases.proofs.AccessHold.{approved-holds}
use Rattle.ps_model_cases.proofs.access.approval_is_asked.Goals as goal

pub returns : goal.returns
returns c = approved-holds
