use Rattle.ps_model_cases.proofs.HomeHold.{last-holds}
use Rattle.ps_model_cases.proofs.home.last_item.Goals as goal

pub returns : goal.returns
returns c = last-holds
