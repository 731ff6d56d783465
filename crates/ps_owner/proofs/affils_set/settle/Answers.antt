use Rattle.std.proofs.Common.{refl, ◌∙◌}
use Rattle.ps_access.specs.Tables.{book_of}
use Rattle.ps_owner.proofs.AffilSets.{same-affil_edit}
use Rattle.ps_owner.proofs.affils_set.settle.Goals as goal

pub returns : goal.returns
returns c =
    let is = c.in_ok-edit.ensures.edit in
    let keeps = c.keeps_owner-keeps.ensures (book_of c.args.tables.now) refl is in
    let stays = c.is_as_before.ensures ∙ same-affil_edit c.in_ok-edit.edit c.args.node.now c.args.rows.now c.args.tables.now.affils.rows is in
    rw (keeps, stays) at c.decided.ensures.settles
