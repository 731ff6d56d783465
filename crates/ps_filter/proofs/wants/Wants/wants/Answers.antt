use Rattle.ps_filter.proofs.Alike.{of_want}
use Rattle.ps_filter.proofs.wants.Wants.wants.Goals as goal

pub any-requires : goal.any-requires
any-requires c = record { asks = of_want c.args.resource.now c.args.node.now }
