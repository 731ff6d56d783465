use Rattle.std.proofs.Common.{◌≡◌, ◌+◌, ◌≤◌, ◌++◌, length, map, vec_capacity}
use Rattle.ps_serve.proofs.storing.ports_of.Given as goal

abbrev pub invariant-loop-one : goal.invariant-loop-one
invariant-loop-one g l =
    (l.back.items ++ map (λ e. e.port) l.one-iterator.rest.items ≡ map (λ e. e.port) l.fn.ended.items)
    × (length l.back.items + length l.one-iterator.rest.items ≤ vec_capacity l.back)
