use Rattle.ps_coll.proofs.Keys.{child_of}
use Rattle.ps_coll.proofs.named.is_child.Goals as goal

pub any-requires : goal.any-requires
any-requires c = record { asks = child_of c.args.child.now }
