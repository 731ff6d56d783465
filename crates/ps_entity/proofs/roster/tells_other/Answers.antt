use Rattle.std.proofs.Common.{ap, ◌∙◌}
use Rattle.std.specs.Prelude.{is_some}
use Rattle.ps_entity.proofs.Contacts.{contact-removed}
use Rattle.ps_entity.proofs.Rows.{copied-some}
use Rattle.ps_entity.proofs.roster.tells_other.Goals as goal

pub returns-in-Remove : goal.returns-in-Remove
returns-in-Remove c =
    rw c.in-Remove.is (c.is_some.ensures ∙ copied-some c.contact.result ∙ ap is_some c.contact.ensures.contact ∙ contact-removed c.args.who.now c.args.item.now.jid c.args.tables.now.roster.rows)
