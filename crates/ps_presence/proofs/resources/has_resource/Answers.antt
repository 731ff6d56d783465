use Rattle.ps_presence.proofs.Keys.{resource_of}
use Rattle.ps_presence.proofs.resources.has_resource.Goals as goal

pub any-requires : goal.any-requires
any-requires c = record { asks = resource_of c.args.who.now }
