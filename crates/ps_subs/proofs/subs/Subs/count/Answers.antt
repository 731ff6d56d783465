use Rattle.ps_subs.proofs.Keys.{at_node, kin_at_node}
use Rattle.ps_subs.proofs.subs.Subs.count.Goals as goal

pub count_node-requires : goal.count_node-requires
count_node-requires c = record { asks = at_node c.args.node.now; kin = kin_at_node c.args.node.now }
