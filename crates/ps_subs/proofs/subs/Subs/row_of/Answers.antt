use Rattle.ps_subs.proofs.Keys.{sub_of}
use Rattle.ps_subs.proofs.subs.Subs.row_of.Goals as goal

pub find-requires : goal.find-requires
find-requires c = record { asks = sub_of c.args.node.now c.args.who.now }
