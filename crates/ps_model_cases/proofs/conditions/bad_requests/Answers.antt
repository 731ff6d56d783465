use Rattle.ps_model_cases.proofs.ConditionsHold.{bad-requests-holds}
use Rattle.ps_model_cases.proofs.conditions.bad_requests.Goals as goal

pub returns : goal.returns
returns c = bad-requests-holds
