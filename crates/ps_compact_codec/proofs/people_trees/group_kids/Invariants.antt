use Rattle.std.proofs.Common.{◌≡◌, map, take}
use Rattle.ps_forms.proofs.Printed.{trees}
use Rattle.ps_compact_codec.specs.Trees.{group_tree}
use Rattle.ps_compact_codec.proofs.people_trees.group_kids.Given as goal

abbrev pub invariant-loop-group : goal.invariant-loop-group
invariant-loop-group l = l.kids ≡ trees (map group_tree (take l.group-index l.groups))
