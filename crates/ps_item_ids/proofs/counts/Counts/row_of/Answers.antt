use Rattle.ps_item_ids.proofs.Keys.{count_of}
use Rattle.ps_item_ids.proofs.counts.Counts.row_of.Goals as goal

pub find-requires : goal.find-requires
find-requires c = record { asks = count_of c.args.node.now c.args.who.now }
