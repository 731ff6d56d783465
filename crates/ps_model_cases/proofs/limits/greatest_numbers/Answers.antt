use Rattle.ps_model_cases.proofs.LimitsHold.{contact-limit, node-limit, sub-limit}
use Rattle.ps_model_cases.proofs.limits.greatest_numbers.Goals as goal

pub returns : goal.returns
returns c = record { subscriptions = sub-limit; nodes = node-limit; contacts = contact-limit }
