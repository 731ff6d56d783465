use Rattle.ps_mirror_laws.proofs.Whole.{mirror-exact}
use Rattle.ps_mirror_laws.proofs.laws.each_mirror_is_exact.Goals as goal

pub returns : goal.returns
returns c = mirror-exact
