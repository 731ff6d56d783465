use Rattle.ps_model_cases.proofs.DiscoveryHold.{entities-holds}
use Rattle.ps_model_cases.proofs.discovery.entities_say_what_they_are.Goals as goal

pub returns : goal.returns
returns c = entities-holds
