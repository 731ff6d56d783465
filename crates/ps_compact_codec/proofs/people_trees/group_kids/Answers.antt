use Rattle.std.proofs.Common.{arith, ◌≡◌, map, ap, ◌∙◌}
use Rattle.std.proofs.lemmas.Grind.{common_steps}
use Rattle.ps_types.specs.Elem.{nodes}
use Rattle.ps_forms.proofs.Printed.{trees, nodes-trees}
use Rattle.ps_compact_codec.specs.Trees.{group_tree}
use Rattle.ps_compact_codec.proofs.Kids.{groups-held}
use Rattle.ps_compact_codec.proofs.people_trees.group_kids.Goals as goal

pub returns : goal.returns
returns c =
    let all : c.loop-group.kids ≡ trees (map group_tree c.args.groups.now) = grind (arith, common_steps, c.loop-group.invariant) in
    ap nodes all ∙ nodes-trees (map group_tree c.args.groups.now) ∙ groups-held c.args.groups.now
