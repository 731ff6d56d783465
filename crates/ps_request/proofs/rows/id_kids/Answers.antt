use Rattle.std.proofs.Common.{arith, ◌≡◌, map, ap, ◌∙◌}
use Rattle.std.proofs.lemmas.Grind.{common_steps}
use Rattle.ps_types.specs.Elem.{nodes}
use Rattle.ps_request.specs.Written.{id_tree}
use Rattle.ps_forms.proofs.Printed.{trees, nodes-trees}
use Rattle.ps_request.proofs.rows.id_kids.Goals as goal

pub returns : goal.returns
returns c =
    let all : c.loop-id.kids ≡ trees (map id_tree c.args.ids.now) = grind (arith, common_steps, c.loop-id.invariant) in
    ap nodes all ∙ nodes-trees (map id_tree c.args.ids.now)
