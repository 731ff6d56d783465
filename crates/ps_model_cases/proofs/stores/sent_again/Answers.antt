use Rattle.ps_model_cases.proofs.Moments.{again, lost-again, not-again}
use Rattle.ps_model_cases.proofs.stores.sent_again.Goals as goal

pub returns : goal.returns
returns c = record { unrecorded = again; lost = lost-again; recorded = not-again }
