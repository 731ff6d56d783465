use Rattle.std.proofs.Common.{◌≡◌, ◌+◌, ◌*◌, drop}
use Rattle.std.specs.Prelude.{nat_le}
use Rattle.ps_types.specs.Tree.{nodes_levels}
use Rattle.ps_types.specs.Elem.{nodes}
use Rattle.ps_compact_import.proofs.depths.+within.Given as goal

abbrev pub decreases-is_within : goal.decreases-is_within
decreases-is_within l = 2 * l.allowed

abbrev pub decreases-are_within : goal.decreases-are_within
decreases-are_within l = 2 * l.allowed + 1

abbrev pub invariant-are_within-loop-kid : goal.invariant-are_within-loop-kid
invariant-are_within-loop-kid l = nat_le (nodes_levels (nodes (drop l.kid-index l.kids))) l.allowed ≡ nat_le (nodes_levels (nodes l.kids)) l.allowed
