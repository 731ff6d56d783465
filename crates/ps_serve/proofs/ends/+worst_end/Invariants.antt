use Rattle.std.proofs.Common.{length}
use Rattle.ps_serve.proofs.ends.+worst_end.Given as goal

abbrev pub decreases-worst_end : goal.decreases-worst_end
decreases-worst_end g l = length l.ended.now
