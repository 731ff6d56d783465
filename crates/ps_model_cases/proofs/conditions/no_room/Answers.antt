use Rattle.ps_model_cases.proofs.FullHold.{requests-holds, others-holds}
use Rattle.ps_model_cases.proofs.conditions.no_room.Goals as goal

pub returns : goal.returns
returns c = record { requests = requests-holds; others = others-holds }
