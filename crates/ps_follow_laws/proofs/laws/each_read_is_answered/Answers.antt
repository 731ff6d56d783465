use Rattle.ps_follow_laws.proofs.Answering.{reads-same}
use Rattle.ps_follow_laws.proofs.laws.each_read_is_answered.Goals as goal

pub returns : goal.returns
returns c = reads-same
