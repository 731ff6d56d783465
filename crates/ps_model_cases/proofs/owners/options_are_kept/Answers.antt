use Rattle.ps_model_cases.proofs.OptionsHold.{options-holds, invalid-options-holds}
use Rattle.ps_model_cases.proofs.owners.options_are_kept.Goals as goal

pub returns : goal.returns
returns c = record { kept = options-holds; invalid = invalid-options-holds }
