use Rattle.ps_model_cases.proofs.NodesHold.{configuration-holds}
use Rattle.ps_model_cases.proofs.nodes.configuration_shown.Goals as goal

pub returns : goal.returns
returns c = configuration-holds
