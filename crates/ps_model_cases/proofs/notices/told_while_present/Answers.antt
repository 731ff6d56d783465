use Rattle.ps_model_cases.proofs.NoticesHold.{while-present-holds}
use Rattle.ps_model_cases.proofs.notices.told_while_present.Goals as goal

pub returns : goal.returns
returns c = while-present-holds
