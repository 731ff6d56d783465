use Rattle.std.proofs.Common.{◌≡◌, ◌++◌}
use Rattle.std.specs.Prelude.{option_copied}
use Rattle.ps_types.specs.Links.{climb, above}
use Rattle.ps_coll.proofs.climb.ancestors_of.Given as goal

abbrev pub invariant-loop-left : goal.invariant-loop-left
invariant-loop-left l = l.nodes.items ++ climb l.left (option_copied l.at) l.rows.rows ≡ above l.node l.rows.rows

abbrev pub decreases-loop-left : goal.decreases-loop-left
decreases-loop-left l = l.left
