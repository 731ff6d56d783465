use Rattle.ps_model_cases.proofs.CollectionsHold.{near-holds}
use Rattle.ps_model_cases.proofs.collections.near_notice.Goals as goal

pub returns : goal.returns
returns c = near-holds
