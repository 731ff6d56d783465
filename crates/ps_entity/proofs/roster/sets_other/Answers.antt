use Rattle.std.proofs.Common.{not, ap, ◌∙◌}
use Rattle.ps_entity.proofs.Contacts.{contact-found, contact-absent}
use Rattle.ps_entity.proofs.roster.sets_other.Goals as goal

pub returns-in-Some : goal.returns-in-Some
returns-in-Some c =
    ap not c.is_contact.ensures ∙ contact-found c.args.who.now c.args.contact.now c.args.state c.args.groups.now c.args.tables.now.roster.rows c.in-Some.row.now c.in-Some.ensures.contact

pub returns-in-None : goal.returns-in-None
returns-in-None c = contact-absent c.args.who.now c.args.contact.now c.args.state c.args.groups.now c.args.tables.now.roster.rows c.in-None.ensures.contact
