use Rattle.ps_roster.proofs.Keys.{contact_of}
use Rattle.ps_roster.proofs.roster.Roster.remove.Goals as goal

pub take_away-requires : goal.take_away-requires
take_away-requires c = record { asks = contact_of c.args.account.now c.args.contact.now }
