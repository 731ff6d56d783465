use Rattle.ps_model_cases.proofs.NoticesHold.{each-kind-holds}
use Rattle.ps_model_cases.proofs.notices.each_kind_is_told.Goals as goal

pub returns : goal.returns
returns c = each-kind-holds
