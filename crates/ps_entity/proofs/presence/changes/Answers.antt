use Rattle.std.proofs.Common.{◌≡◌, not, ap, ◌∙◌}
use Rattle.ps_entity.specs.Resources.{is_resource}
use Rattle.ps_entity.proofs.Resources.{resource-found, resource-absent}
use Rattle.ps_entity.proofs.presence.changes.Goals as goal

pub returns-in-Some : goal.returns-in-Some
returns-in-Some c =
    let same : c.is_resource.result ≡ is_resource c.args.caps.now c.features_known-features.result.now c.in-Some.row.now = c.is_resource.ensures in
    ap not (rw c.features_known-features.ensures.features at same) ∙ resource-found c.args.who.now c.args.caps.now _ c.args.tables.now.presence.rows c.in-Some.row.now c.in-Some.ensures.row

pub returns-in-None : goal.returns-in-None
returns-in-None c = resource-absent c.args.who.now c.args.caps.now _ c.args.tables.now.presence.rows c.in-None.ensures.row
