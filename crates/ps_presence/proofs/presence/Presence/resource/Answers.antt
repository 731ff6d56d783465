use Rattle.ps_presence.proofs.Keys.{resource_of}
use Rattle.ps_presence.proofs.presence.Presence.resource.Goals as goal

pub find-requires : goal.find-requires
find-requires c = record { asks = resource_of c.args.who.now }
