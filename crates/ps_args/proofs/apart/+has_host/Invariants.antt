use Rattle.std.proofs.Common.{length}
use Rattle.ps_args.proofs.apart.+has_host.Given as goal

abbrev pub decreases-has_host : goal.decreases-has_host
decreases-has_host l = length l.streams.now
