use Rattle.ps_nodes.proofs.Keys.{of_key}
use Rattle.ps_nodes.proofs.entries.seek_node.Goals as goal

pub seek-requires : goal.seek-requires
seek-requires c = record { asks = of_key c.args.node.now }
