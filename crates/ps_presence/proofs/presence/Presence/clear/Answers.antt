use Rattle.ps_presence.proofs.Keys.{resource_of}
use Rattle.ps_presence.proofs.presence.Presence.clear.Goals as goal

pub take_away-requires : goal.take_away-requires
take_away-requires c = record { asks = resource_of c.args.who.now }
