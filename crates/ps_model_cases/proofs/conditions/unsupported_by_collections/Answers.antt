use Rattle.ps_model_cases.proofs.ConditionsHold.{unsupported-requests-holds}
use Rattle.ps_model_cases.proofs.conditions.unsupported_by_collections.Goals as goal

pub returns : goal.returns
returns c = unsupported-requests-holds
