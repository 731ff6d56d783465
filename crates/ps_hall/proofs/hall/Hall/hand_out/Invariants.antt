use Rattle.std.proofs.Common.{◌≤◌, length, vec_capacity}
use Rattle.ps_hall.proofs.Dealing.{Dealt, FreshSoFar}
use Rattle.ps_hall.proofs.hall.Hall.hand_out.Given as goal

abbrev pub invariant-loop-name : goal.invariant-loop-name
invariant-loop-name g l =
    Dealt g.B.Opening.origin l.self.twin (length l.passes.items) l.name-iterator.rest.items l.seats.rest.items × FreshSoFar g.B.Opening.origin l.self.twin l.passes.items
    × (length g.B.Opening.origin.hosts ≤ vec_capacity l.passes)
