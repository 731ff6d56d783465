use Rattle.ps_model_cases.proofs.NodesHold.{others-holds}
use Rattle.ps_model_cases.proofs.nodes.other_subscribers.Goals as goal

pub returns : goal.returns
returns c = others-holds
