use Rattle.ps_model_cases.proofs.HomeHold.{wanting-holds}
use Rattle.ps_model_cases.proofs.home.wanted_items.Goals as goal

pub returns : goal.returns
returns c = wanting-holds
