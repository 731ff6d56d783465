use Rattle.std.proofs.Common.{◌≡◌, ◌≤◌, None}
use Rattle.ps_wire.specs.Reading.{Gave, given_of, rest_of, source_of, stopped_of}
use Rattle.ps_hall.specs.Calls.{IsReader}
use Rattle.ps_streams.specs.Reading.{SeatSoRead}
use Rattle.ps_streams.specs.Speaking.{IsSamePass}
use Rattle.ps_streams.proofs.read.read_lines.Given as goal

abbrev pub invariant-loop : goal.invariant-loop
invariant-loop g l =
    IsReader g.B.Opening.origin l.hall.twin l.pass.at l.pass.host l.pass.seat
    × IsSamePass l.initial.pass l.pass
    × SeatSoRead g.B.Opening.origin l.initial.pass.seat l.pass.seat (rest_of l.initial.lines) (rest_of l.lines) (g.C.Clock.told l.initial.clock) (g.C.Clock.told l.clock)
    × (stopped_of l.lines ≡ None)
    × (g.S.Source.faults (source_of l.initial.lines) ≤ g.S.Source.faults (source_of l.lines))
    × Gave (g.S.Source.left (source_of l.initial.lines)) (g.S.Source.left (source_of l.lines)) (given_of l.initial.lines) (given_of l.lines)
