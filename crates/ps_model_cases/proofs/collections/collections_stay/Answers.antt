use Rattle.ps_model_cases.proofs.CollectionsHold.{kept-together-holds}
use Rattle.ps_model_cases.proofs.collections.collections_stay.Goals as goal

pub returns : goal.returns
returns c = kept-together-holds
