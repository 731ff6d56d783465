use Rattle.std.proofs.Common.{◌≡◌, ◌+◌, ◌≤◌, ◌++◌, length, vec_capacity}
use Rattle.ps_workers.specs.Teams.{ArePaired, ended_in, passes_in}
use Rattle.ps_workers.proofs.serving.part.Given as goal

abbrev pub invariant-loop-reader : goal.invariant-loop-reader
invariant-loop-reader g l =
    ArePaired l.workers.rest.items
    × (l.passes.items ++ passes_in l.workers.rest.items ≡ passes_in l.fn.workers.items)
    × (l.ended.items ++ ended_in l.workers.rest.items ≡ ended_in l.fn.workers.items)
    × (length l.passes.items + length l.passes.items + length l.workers.rest.items ≤ vec_capacity l.passes + vec_capacity l.passes)
    × (length l.ended.items + length l.ended.items + length l.workers.rest.items ≤ vec_capacity l.ended + vec_capacity l.ended)

abbrev pub decreases-loop-reader : goal.decreases-loop-reader
decreases-loop-reader g l = length l.workers.rest.items
