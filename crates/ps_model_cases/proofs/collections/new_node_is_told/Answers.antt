use Rattle.ps_model_cases.proofs.CollectionsHold.{new-node-holds}
use Rattle.ps_model_cases.proofs.collections.new_node_is_told.Goals as goal

pub returns : goal.returns
returns c = new-node-holds
