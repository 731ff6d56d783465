use Rattle.std.proofs.Common.{arith, ◌≡◌, map, ap, ◌∙◌}
use Rattle.std.proofs.lemmas.Grind.{common_steps}
use Rattle.ps_types.specs.Elem.{nodes}
use Rattle.ps_request.specs.Written.{item_tree}
use Rattle.ps_forms.proofs.Printed.{trees, nodes-trees}
use Rattle.ps_request.proofs.rows.item_kids.Goals as goal

pub returns : goal.returns
returns c =
    let all : c.loop-item.kids ≡ trees (map item_tree c.args.items.now) = grind (arith, common_steps, c.loop-item.invariant) in
    ap nodes all ∙ nodes-trees (map item_tree c.args.items.now)
