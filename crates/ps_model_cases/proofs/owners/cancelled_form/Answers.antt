use Rattle.ps_model_cases.proofs.OwnersHold.{cancelled-holds}
use Rattle.ps_model_cases.proofs.owners.cancelled_form.Goals as goal

pub returns : goal.returns
returns c = cancelled-holds
