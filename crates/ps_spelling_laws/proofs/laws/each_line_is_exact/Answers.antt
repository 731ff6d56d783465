use Rattle.ps_model.proofs.LineLaws.{reads-line}
use Rattle.ps_spelling_laws.proofs.Trees.{line-exact}
use Rattle.ps_spelling_laws.proofs.laws.each_line_is_exact.Goals as goal

pub returns : goal.returns
returns c = λ text t. (line-exact text t, reads-line text t)
