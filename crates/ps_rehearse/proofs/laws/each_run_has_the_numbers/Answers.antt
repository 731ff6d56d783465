use Rattle.ps_rehearse.proofs.Run.{same-numbers}
use Rattle.ps_rehearse.proofs.laws.each_run_has_the_numbers.Goals as goal

pub returns : goal.returns
returns c = λ seed count few n is. same-numbers seed count few n is
