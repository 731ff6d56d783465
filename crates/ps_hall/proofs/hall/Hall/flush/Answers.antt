use Rattle.ps_hall_flush.proofs.Flushing.{flushed_owned}
use Rattle.ps_hall.proofs.Passing.{pass_after}
use Rattle.ps_twin.specs.Seats.{seen_of, number_of}
use Rattle.ps_hall.proofs.hall.Hall.flush.Goals as goal

pub flush_seat-flushed-requires : goal.flush_seat-flushed-requires
flush_seat-flushed-requires g c = c.requires.pass.call

pub returns-clause-pass : goal.returns-clause-pass
returns-clause-pass g c =
    let x = c.flush_seat-flushed.ensures in
    let s = c.flush_seat-flushed.new.seat in
    pass_after g.B.Opening.origin c.args.self.now.twin c.args.pass.now.at c.args.pass.now.host c.args.pass.now.seat s c.requires.pass x.call
    (flushed_owned g.B.Opening.origin (number_of c.args.pass.now.seat) (seen_of c.args.pass.now.seat) (seen_of s) c.flush_seat-flushed.result x.ok x.err)
