use Rattle.std.proofs.Common.{◌≤◌, []}
use Rattle.ps_streams.specs.Speaking.{IsSamePass, MayTell, SeatGoesOn, SeatSpokeWhole}
use Rattle.ps_streams.proofs.write.write_lines.Given as goal

abbrev pub invariant-loop : goal.invariant-loop
invariant-loop g l =
    MayTell g.B.Opening.origin l.hall.twin l.pass
    × IsSamePass l.initial.pass l.pass
    × SeatSpokeWhole g.B.Opening.origin [] l.pass.in_hand.items l.initial.pass.seat l.pass.seat (g.K.Sink.written l.initial.sink) (g.K.Sink.written l.sink)
    × (g.K.Sink.faults l.initial.sink ≤ g.K.Sink.faults l.sink)
    × SeatGoesOn l.initial.pass.seat l.pass.seat
