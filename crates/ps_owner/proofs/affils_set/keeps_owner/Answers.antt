use Rattle.std.proofs.Common.{sym, ◌∙◌}
use Rattle.ps_owner.proofs.AffilSets.{keeps-edit}
use Rattle.ps_owner.proofs.affils_set.keeps_owner.Goals as goal

pub returns-else-is_account_address : goal.returns-else-is_account_address
returns-else-is_account_address c = λ book same is.
    c.has_owner.ensures ∙ keeps-edit book c.args.affils.now.rows c.args.node.now c.args.rows.now c.args.edit.now (sym c.is_account_address.ensures.account ∙ c.if-is_account_address.false) same is
