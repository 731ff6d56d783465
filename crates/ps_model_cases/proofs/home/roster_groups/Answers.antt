use Rattle.ps_model_cases.proofs.HomeHold.{groups-holds}
use Rattle.ps_model_cases.proofs.home.roster_groups.Goals as goal

pub returns : goal.returns
returns c = groups-holds
