use Rattle.std.proofs.Common.{arith, ◌≡◌, map, ap, ◌∙◌}
use Rattle.std.proofs.lemmas.Grind.{common_steps}
use Rattle.ps_types.specs.Elem.{nodes}
use Rattle.ps_types.specs.Forms.{field_tree}
use Rattle.ps_forms.proofs.Printed.{trees, nodes-trees}
use Rattle.ps_forms.proofs.print.field_kids.Goals as goal

pub returns : goal.returns
returns c =
    let all : c.loop-field.kids ≡ trees (map field_tree c.args.fields.now) = grind (arith, common_steps, c.loop-field.invariant) in
    ap nodes all ∙ nodes-trees (map field_tree c.args.fields.now)
