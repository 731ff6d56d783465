use Rattle.ps_model_cases.proofs.ConditionsHold.{approvals-holds}
use Rattle.ps_model_cases.proofs.conditions.denied_approvals.Goals as goal

pub returns : goal.returns
returns c = approvals-holds
