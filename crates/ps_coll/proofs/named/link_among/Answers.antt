use Rattle.ps_coll.proofs.Keys.{child_of}
use Rattle.ps_coll.proofs.named.link_among.Goals as goal

pub find-requires : goal.find-requires
find-requires c = record { asks = child_of c.args.child.now }
