use Rattle.ps_model_cases.proofs.NodesHold.{discovery-holds}
use Rattle.ps_model_cases.proofs.nodes.nodes_are_found.Goals as goal

pub returns : goal.returns
returns c = discovery-holds
