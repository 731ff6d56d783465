use Rattle.ps_roster.proofs.Keys.{contact_of}
use Rattle.ps_roster.proofs.roster.Roster.contact.Goals as goal

pub find-requires : goal.find-requires
find-requires c = record { asks = contact_of c.args.account.now c.args.contact.now }
