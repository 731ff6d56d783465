use Rattle.std.proofs.Common.{◌-◌, []}
use Rattle.ps_journal.specs.Judged.{Follows}
use Rattle.ps_journal.specs.Pieces.{IsHeld, OnlyReads}
use Rattle.ps_journal.proofs.Readings.{PiecesSoFar}
use Rattle.ps_journal.proofs.reading.frames_on.Given as goal

abbrev pub invariant-frames : goal.invariant-frames
invariant-frames g l =
    let D = g.D.Disk in
    PiecesSoFar D.tells g.T.Taker.refused (D.seen l.fn.disk) l.second l.trail.items l.stop l.at
    × Follows g.T.Taker.stands l.fn.taker [] l.taker l.trail.items
    × IsHeld D.tells (D.seen l.disk) l.total l.at l.piece
    × OnlyReads D.tells D.seen D.synced D.written D.moment D.left_since D.faults l.fn.disk l.disk

abbrev pub decreases-frames : goal.decreases-frames
decreases-frames g l = l.total - l.at
