use Rattle.ps_model_cases.proofs.PresenceHold.{known-holds}
use Rattle.ps_model_cases.proofs.presence.verified_is_not_asked.Goals as goal

pub returns : goal.returns
returns c = known-holds
