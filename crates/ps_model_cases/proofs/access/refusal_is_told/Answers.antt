use Rattle.ps_model_cases.proofs.AccessHold.{refused-holds}
use Rattle.ps_model_cases.proofs.access.refusal_is_told.Goals as goal

pub returns : goal.returns
returns c = refused-holds
