use Rattle.ps_model.proofs.Going.{lawful-front}
use Rattle.ps_model.proofs.laws.lawful_prefix.Goals as goal
use Rattle.ps_model.specs.Book.{empty_state}

pub returns : goal.returns
returns c = record { front = λ E F is. lawful-front E F empty_state is }
