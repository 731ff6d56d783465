use Rattle.ps_mirror_laws.proofs.Short.{source-exact}
use Rattle.ps_mirror_laws.proofs.laws.each_mirrored_source_is_exact.Goals as goal

pub returns : goal.returns
returns c = source-exact
