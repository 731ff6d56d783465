use Rattle.ps_subs.proofs.Keys.{sub_of}
use Rattle.ps_subs.proofs.subs.remove.Goals as goal

pub take_away-requires : goal.take_away-requires
take_away-requires c = record { asks = sub_of c.args.row.now.node c.args.row.now.who }
