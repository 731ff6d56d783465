use Rattle.ps_coll.proofs.Keys.{under}
use Rattle.ps_coll.proofs.named.has_child.Goals as goal

pub any-requires : goal.any-requires
any-requires c = record { asks = under c.args.collection.now }
