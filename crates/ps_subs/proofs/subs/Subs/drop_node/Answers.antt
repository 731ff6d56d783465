use Rattle.ps_subs.proofs.Keys.{at_node}
use Rattle.ps_subs.proofs.subs.Subs.drop_node.Goals as goal

pub take_away-requires : goal.take_away-requires
take_away-requires c = record { asks = at_node c.args.node.now }
