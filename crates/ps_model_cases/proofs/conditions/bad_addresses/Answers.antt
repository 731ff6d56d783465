use Rattle.ps_model_cases.proofs.ConditionsHold.{addresses-holds}
use Rattle.ps_model_cases.proofs.conditions.bad_addresses.Goals as goal

pub returns : goal.returns
returns c = addresses-holds
