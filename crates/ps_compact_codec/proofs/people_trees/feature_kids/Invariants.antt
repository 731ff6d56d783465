use Rattle.std.proofs.Common.{◌≡◌, map, take}
use Rattle.ps_forms.proofs.Printed.{trees}
use Rattle.ps_compact_codec.specs.Trees.{feature_tree}
use Rattle.ps_compact_codec.proofs.people_trees.feature_kids.Given as goal

abbrev pub invariant-loop-feature : goal.invariant-loop-feature
invariant-loop-feature l = l.kids ≡ trees (map feature_tree (take l.feature-index l.features))
