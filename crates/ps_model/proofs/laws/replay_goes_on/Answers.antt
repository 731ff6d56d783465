use Rattle.ps_model.proofs.Going.{replay-append}
use Rattle.ps_model.proofs.laws.replay_goes_on.Goals as goal
use Rattle.ps_model.specs.Book.{empty_state}

pub returns : goal.returns
returns c = λ E F. replay-append E F empty_state
