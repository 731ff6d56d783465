use Rattle.ps_model_cases.proofs.NodesHold.{owners-holds}
use Rattle.ps_model_cases.proofs.nodes.last_owner.Goals as goal

pub returns : goal.returns
returns c = owners-holds
