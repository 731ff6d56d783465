use Rattle.ps_trace.proofs.Keeping.{flush-keeps}
use Rattle.ps_trace.proofs.laws.each_flush_keeps.Goals as goal

pub returns : goal.returns
returns c = record { kept = λ core laws boot list hosts k found new did. flush-keeps core laws boot list hosts k found new did }
