use Rattle.ps_presence.proofs.Keys.{of_bare}
use Rattle.ps_presence.proofs.resources.rows_of.Goals as goal

pub list-requires : goal.list-requires
list-requires c = record { asks = of_bare c.args.bare.now }
