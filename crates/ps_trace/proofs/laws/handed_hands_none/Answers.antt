use Rattle.ps_trace.proofs.Handing.{hands-none}
use Rattle.ps_trace.proofs.laws.handed_hands_none.Goals as goal

pub returns : goal.returns
returns c = record { none = hands-none }
