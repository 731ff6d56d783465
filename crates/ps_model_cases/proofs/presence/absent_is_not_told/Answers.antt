use Rattle.ps_model_cases.proofs.PresenceHold.{absent-holds}
use Rattle.ps_model_cases.proofs.presence.absent_is_not_told.Goals as goal

pub returns : goal.returns
returns c = absent-holds
