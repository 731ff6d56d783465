use Rattle.ps_model.proofs.Asked.{is-among-asked}
use Rattle.ps_model.proofs.laws.nobody_missed.Goals as goal

pub returns : goal.returns
returns c = is-among-asked
