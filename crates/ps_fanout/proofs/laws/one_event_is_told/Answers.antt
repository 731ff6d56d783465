use Rattle.ps_fanout.proofs.Due.{one-due}
use Rattle.ps_fanout.proofs.laws.one_event_is_told.Goals as goal

pub returns : goal.returns
returns c = one-due
