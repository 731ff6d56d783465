use Rattle.ps_model_cases.proofs.OwnersHold.{subscriptions-holds}
use Rattle.ps_model_cases.proofs.owners.subscriptions_are_set.Goals as goal

pub returns : goal.returns
returns c = subscriptions-holds
