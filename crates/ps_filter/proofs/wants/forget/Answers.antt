use Rattle.ps_filter.proofs.Alike.{of_resource}
use Rattle.ps_filter.proofs.wants.forget.Goals as goal

pub take_away-requires : goal.take_away-requires
take_away-requires c = record { asks = of_resource c.args.who.now }
