use Rattle.ps_model_cases.proofs.DiscoveryHold.{lists-holds, at-account-holds}
use Rattle.ps_model_cases.proofs.discovery.nodes_and_items_are_listed.Goals as goal

pub returns : goal.returns
returns c = record { at_service = lists-holds; at_account = at-account-holds }
