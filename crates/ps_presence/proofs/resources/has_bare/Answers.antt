use Rattle.ps_presence.proofs.Keys.{of_bare}
use Rattle.ps_presence.proofs.resources.has_bare.Goals as goal

pub any-requires : goal.any-requires
any-requires c = record { asks = of_bare c.args.who.now }
