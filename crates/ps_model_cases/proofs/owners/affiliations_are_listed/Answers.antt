use Rattle.ps_model_cases.proofs.OwnersHold.{affiliations-holds, personal-holds}
use Rattle.ps_model_cases.proofs.owners.affiliations_are_listed.Goals as goal

pub returns : goal.returns
returns c = record { at_service = affiliations-holds; at_account = personal-holds }
