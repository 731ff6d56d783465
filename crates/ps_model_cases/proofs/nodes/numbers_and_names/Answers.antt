use Rattle.ps_model_cases.proofs.NodesHold.{numbers-holds}
use Rattle.ps_model_cases.proofs.nodes.numbers_and_names.Goals as goal

pub returns : goal.returns
returns c = numbers-holds
