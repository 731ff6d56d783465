use Rattle.ps_model_cases.proofs.AccessHold.{whitelist-holds}
use Rattle.ps_model_cases.proofs.access.whitelist_in_order.Goals as goal

pub returns : goal.returns
returns c = whitelist-holds
