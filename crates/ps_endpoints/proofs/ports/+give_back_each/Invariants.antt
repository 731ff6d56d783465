use Rattle.std.proofs.Common.{length}
use Rattle.ps_endpoints.proofs.ports.+give_back_each.Given as goal

abbrev pub decreases-give_back_each : goal.decreases-give_back_each
decreases-give_back_each g l = length l.streams.now
