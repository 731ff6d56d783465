use Rattle.std.proofs.Common.{length, []}
use Rattle.ps_journal.specs.Judged.{Follows}
use Rattle.ps_journal.proofs.Verdicts.{FramesSoFar}
use Rattle.ps_journal.proofs.judging.frames_of.Given as goal

abbrev pub invariant-frames : goal.invariant-frames
invariant-frames g l = FramesSoFar g.T.Taker.refused l.bytes l.trail.items l.stop l.rest × Follows g.T.Taker.stands l.fn.taker [] l.taker l.trail.items

abbrev pub decreases-frames : goal.decreases-frames
decreases-frames g l = length l.rest
