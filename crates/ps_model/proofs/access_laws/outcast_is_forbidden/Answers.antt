use Rattle.ps_model.proofs.AccessLaws.{outcast}
use Rattle.ps_model.proofs.access_laws.outcast_is_forbidden.Goals as goal

pub returns : goal.returns
returns c = λ book node who h out. outcast book node who out h
