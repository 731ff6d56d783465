use Rattle.std.proofs.Common.{◌∙◌}
use Rattle.ps_owner.proofs.SubSets.{same-sub_edit}
use Rattle.ps_owner.proofs.subs_set.settle.Goals as goal

pub returns : goal.returns
returns c =
    let is = c.in_ok-edit.ensures.edit in
    let few = c.are_few-few.ensures c.args.rows.now is in
    let stays = c.is_as_before.ensures ∙ same-sub_edit c.in_ok-edit.edit c.args.node.now c.args.rows.now c.args.tables.now.subs.rows is in
    rw (few, stays) at c.decided.ensures.settles
