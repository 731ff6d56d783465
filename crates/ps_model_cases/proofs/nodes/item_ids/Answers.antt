use Rattle.ps_model_cases.proofs.NodesHold.{ids-holds}
use Rattle.ps_model_cases.proofs.nodes.item_ids.Goals as goal

pub returns : goal.returns
returns c = ids-holds
