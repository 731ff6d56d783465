use Rattle.ps_fanout.proofs.Stamps.{stamp-is}
use Rattle.ps_fanout.proofs.moments.stamp_is_utc.Goals as goal

pub returns : goal.returns
returns c = stamp-is
