use Rattle.std.proofs.Common.{arith, ◌≡◌, map, ap, ◌∙◌}
use Rattle.std.proofs.lemmas.Grind.{common_steps}
use Rattle.ps_types.specs.Elem.{nodes}
use Rattle.ps_forms.proofs.Printed.{trees, nodes-trees}
use Rattle.ps_request.proofs.rows.payload_kids.Goals as goal

pub returns : goal.returns
returns c =
    let all : c.loop-payload.kids ≡ trees c.args.payloads.now = grind (arith, common_steps, c.loop-payload.invariant) in
    ap nodes all ∙ nodes-trees c.args.payloads.now
