use Rattle.ps_model_cases.proofs.NodesHold.{items-holds}
use Rattle.ps_model_cases.proofs.nodes.item_denials.Goals as goal

pub returns : goal.returns
returns c = items-holds
