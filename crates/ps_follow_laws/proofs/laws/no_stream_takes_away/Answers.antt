use Rattle.ps_follow_laws.proofs.Streaming.{streams-keep}
use Rattle.ps_follow_laws.proofs.laws.no_stream_takes_away.Goals as goal

pub returns : goal.returns
returns c = streams-keep
