use Rattle.std.proofs.Common.{◌≡◌}
use Rattle.std.specs.Prelude.{option_copied}
use Rattle.std.specs.List.{list_any}
use Rattle.ps_types.specs.Links.{climb, is_under}
use Rattle.ps_types.specs.Same.{same_node}
use Rattle.ps_coll.proofs.climb.is_reached.Given as goal

abbrev pub invariant-loop-left : goal.invariant-loop-left
invariant-loop-left l = list_any (same_node l.collection) (climb l.left (option_copied l.at) l.rows.rows) ≡ is_under l.node l.collection l.deep l.rows.rows

abbrev pub decreases-loop-left : goal.decreases-loop-left
decreases-loop-left l = l.left
