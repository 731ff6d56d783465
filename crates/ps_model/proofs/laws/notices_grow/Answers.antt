use Rattle.ps_model.proofs.Going.{notices-append}
use Rattle.ps_model.proofs.laws.notices_grow.Goals as goal
use Rattle.ps_model.specs.Book.{empty_state}

pub returns : goal.returns
returns c = λ E F a. notices-append E F empty_state a
