use Rattle.std.proofs.Common.{[]}
use Rattle.ps_hall.specs.Calls.{IsReader}
use Rattle.ps_streams.specs.Reading.{SeatBrings}
use Rattle.ps_streams.specs.Speaking.{IsSamePass}
use Rattle.ps_streams.proofs.read.take_line.Given as goal

abbrev pub invariant-loop : goal.invariant-loop
invariant-loop g l =
    IsReader g.B.Opening.origin l.hall.twin l.pass.at l.pass.host l.pass.seat
    × IsSamePass l.initial.pass l.pass
    × SeatBrings g.B.Opening.origin l.initial.pass.seat l.pass.seat []
