use Rattle.ps_entity.proofs.Contacts.{contacts-itself}
use Rattle.ps_entity.proofs.roster.changes_by.Goals as goal

pub returns-in-None : goal.returns-in-None
returns-in-None c = rw c.in-None.is (contacts-itself c.args.tables.now.roster.rows)
