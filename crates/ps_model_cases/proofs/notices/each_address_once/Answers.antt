use Rattle.ps_model_cases.proofs.NoticesHold.{addresses-holds}
use Rattle.ps_model_cases.proofs.notices.each_address_once.Goals as goal

pub returns : goal.returns
returns c = addresses-holds
