use Rattle.ps_model_cases.proofs.CapabilitiesHold.{verified-holds}
use Rattle.ps_model_cases.proofs.capabilities.exact_answer_counts.Goals as goal

pub returns : goal.returns
returns c = verified-holds
