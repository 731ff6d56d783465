use Rattle.ps_outbox.proofs.Fifo.{front_goes, others_stay}
use Rattle.ps_outbox.proofs.laws.first_in_first_out.Goals as goal

pub returns-clause-drop : goal.returns-clause-drop
returns-clause-drop c = front_goes

pub returns-clause-others : goal.returns-clause-others
returns-clause-others c = others_stay
