use Rattle.ps_rehearse_laws.proofs.Whole.{same-numbers}
use Rattle.ps_rehearse_laws.proofs.laws.each_rehearsal_has_the_numbers.Goals as goal

pub returns : goal.returns
returns c = λ seed count short w cs ds ws vs is. same-numbers seed count short w cs ds ws vs is
