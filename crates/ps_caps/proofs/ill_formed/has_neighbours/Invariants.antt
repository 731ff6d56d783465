use Rattle.std.proofs.Common.{◌≡◌, length}
use Rattle.ps_caps.specs.Repeated.{neighbours}
use Rattle.ps_caps.proofs.ill_formed.has_neighbours.Given as goal

abbrev pub invariant-loop-first : goal.invariant-loop-first
invariant-loop-first g l = neighbours (g.T.Once.same) l.rest ≡ neighbours (g.T.Once.same) l.items

abbrev pub decreases-loop-first : goal.decreases-loop-first
decreases-loop-first g l = length l.rest
