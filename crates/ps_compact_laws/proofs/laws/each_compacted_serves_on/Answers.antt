use Rattle.ps_compact_laws.proofs.Rereading.{stored-gives}
use Rattle.ps_compact_laws.proofs.ServesOn.{base-serves-on}
use Rattle.ps_compact_laws.proofs.laws.each_compacted_serves_on.Goals as goal

pub returns : goal.returns
returns c = λ E is own made few. base-serves-on E is (stored-gives E is own made few)
