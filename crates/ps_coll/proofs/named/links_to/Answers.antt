use Rattle.ps_coll.proofs.Keys.{under}
use Rattle.ps_coll.proofs.named.links_to.Goals as goal

pub list-requires : goal.list-requires
list-requires c = record { asks = under c.args.collection.now }
