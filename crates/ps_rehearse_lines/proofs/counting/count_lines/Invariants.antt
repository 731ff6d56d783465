use Rattle.std.proofs.Common.{length}
use Rattle.ps_rehearse_lines.proofs.Whole.{SoFar}
use Rattle.ps_rehearse_lines.proofs.counting.count_lines.Given as goal

abbrev pub invariant-lines : goal.invariant-lines
invariant-lines l = SoFar l.fn.bytes l.rest l.counts

abbrev pub decreases-lines : goal.decreases-lines
decreases-lines l = length l.rest
