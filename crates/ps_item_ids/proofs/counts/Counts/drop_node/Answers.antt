use Rattle.ps_item_ids.proofs.Keys.{at_node}
use Rattle.ps_item_ids.proofs.counts.Counts.drop_node.Goals as goal

pub take_away-requires : goal.take_away-requires
take_away-requires c = record { asks = at_node c.args.node.now }
