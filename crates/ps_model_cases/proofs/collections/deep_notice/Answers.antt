use Rattle.ps_model_cases.proofs.CollectionsHold.{deep-holds}
use Rattle.ps_model_cases.proofs.collections.deep_notice.Goals as goal

pub returns : goal.returns
returns c = deep-holds
