use Rattle.ps_secrecy_step.proofs.DueLaws.{line-due}
use Rattle.ps_secrecy_step.proofs.laws.each_line_is_due.Goals as goal

pub returns : goal.returns
returns c = λ s host line one booted next early e at. line-due s host line one booted next early e at
