use Rattle.std.proofs.Common.{arith, ◌≡◌, map, ap, ◌∙◌}
use Rattle.std.proofs.lemmas.Grind.{common_steps}
use Rattle.ps_types.specs.Elem.{nodes}
use Rattle.ps_forms.proofs.Printed.{trees, nodes-trees}
use Rattle.ps_compact_codec.specs.Trees.{feature_tree}
use Rattle.ps_compact_codec.proofs.Kids.{features-held}
use Rattle.ps_compact_codec.proofs.people_trees.feature_kids.Goals as goal

pub returns : goal.returns
returns c =
    let all : c.loop-feature.kids ≡ trees (map feature_tree c.args.features.now) = grind (arith, common_steps, c.loop-feature.invariant) in
    ap nodes all ∙ nodes-trees (map feature_tree c.args.features.now) ∙ features-held c.args.features.now
