use Rattle.std.proofs.Common.{◌≡◌, ◌+◌, ◌≤◌, ◌++◌, length, vec_capacity}
use Rattle.ps_hall.specs.Passes.{seats_in}
use Rattle.ps_hall.proofs.hall.SeatRoom.gather.Given as goal

abbrev pub invariant-loop-both : goal.invariant-loop-both
invariant-loop-both g l =
    (l.seats.items ++ seats_in l.both-iterator.rest.items ≡ seats_in l.fn.passes.items)
    × (length l.seats.items + (length l.both-iterator.rest.items + length l.both-iterator.rest.items) ≤ vec_capacity l.seats)
