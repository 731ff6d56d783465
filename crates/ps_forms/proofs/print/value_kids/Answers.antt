use Rattle.std.proofs.Common.{arith, ◌≡◌, map, ap, ◌∙◌}
use Rattle.std.proofs.lemmas.Grind.{common_steps}
use Rattle.ps_types.specs.Elem.{nodes}
use Rattle.ps_types.specs.Forms.{value_tree}
use Rattle.ps_forms.proofs.Printed.{trees, nodes-trees}
use Rattle.ps_forms.proofs.print.value_kids.Goals as goal

pub returns : goal.returns
returns c =
    let all : c.loop-value.kids ≡ trees (map value_tree c.args.values.now) = grind (arith, common_steps, c.loop-value.invariant) in
    ap nodes all ∙ nodes-trees (map value_tree c.args.values.now)
