use Rattle.ps_model_cases.proofs.NoticesHold.{published-item-holds}
use Rattle.ps_model_cases.proofs.notices.item_is_handed.Goals as goal

pub returns : goal.returns
returns c = published-item-holds
