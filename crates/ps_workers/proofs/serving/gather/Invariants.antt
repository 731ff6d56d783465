use Rattle.std.proofs.Common.{◌≡◌, ◌+◌, ◌≤◌, ◌++◌, length, vec_capacity}
use Rattle.ps_workers.specs.Teams.{team}
use Rattle.ps_workers.proofs.serving.gather.Given as goal

abbrev pub invariant-loop-both : goal.invariant-loop-both
invariant-loop-both g l =
    (l.workers.items ++ team l.both-iterator.rest.items l.ports.rest.items ≡ team l.fn.passes.items l.fn.ports.items)
    × (length l.ports.rest.items ≡ length l.both-iterator.rest.items)
    × (length l.workers.items + (length l.both-iterator.rest.items + length l.both-iterator.rest.items) ≤ vec_capacity l.workers)
