use Rattle.ps_filter.proofs.Alike.{for_name}
use Rattle.ps_filter.proofs.wants.wants_for.Goals as goal

pub list-requires : goal.list-requires
list-requires c = record { asks = for_name c.args.name.now }
