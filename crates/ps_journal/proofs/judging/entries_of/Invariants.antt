use Rattle.std.proofs.Common.{◌-◌, length}
use Rattle.ps_journal.specs.Judged.{Follows}
use Rattle.ps_journal.proofs.Walks.{SoFar}
use Rattle.ps_journal.proofs.judging.entries_of.Given as goal

abbrev pub invariant-loop-from : goal.invariant-loop-from
invariant-loop-from g l = SoFar l.second l.at l.body l.fn.trail.items l.trail.items l.from × Follows g.T.Taker.stands l.fn.taker l.fn.trail.items l.taker l.trail.items

abbrev pub decreases-loop-from : goal.decreases-loop-from
decreases-loop-from g l = length l.body - l.from
