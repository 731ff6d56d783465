use Rattle.std.proofs.Common.{◌≡◌, ◌≤◌, length}
use Rattle.ps_wire.specs.Writing.{AppendsFront}
use Rattle.ps_streams.proofs.put.write_whole.Given as goal

abbrev pub invariant-pieces : goal.invariant-pieces
invariant-pieces g l =
    ((written : AppendsFront (g.K.Sink.written l.initial.sink) (g.K.Sink.written l.sink) l.bytes) × (written.behind ≡ l.rest))
    × (g.K.Sink.faults l.initial.sink ≤ g.K.Sink.faults l.sink)

abbrev pub decreases-pieces : goal.decreases-pieces
decreases-pieces g l = length l.rest
