use Rattle.ps_nodes.proofs.Keys.{kin_of_maker, of_maker}
use Rattle.ps_nodes.proofs.entries.made_in.Goals as goal

pub count_node-requires : goal.count_node-requires
count_node-requires c = record { asks = of_maker c.args.who.now; kin = kin_of_maker c.args.who.now }
