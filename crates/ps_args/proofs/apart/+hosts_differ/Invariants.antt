use Rattle.std.proofs.Common.{length}
use Rattle.ps_args.proofs.apart.+hosts_differ.Given as goal

abbrev pub decreases-hosts_differ : goal.decreases-hosts_differ
decreases-hosts_differ l = length l.streams.now
