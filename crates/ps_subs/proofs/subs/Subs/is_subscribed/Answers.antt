use Rattle.ps_subs.proofs.Keys.{subscribed}
use Rattle.ps_subs.proofs.subs.Subs.is_subscribed.Goals as goal

pub any-requires : goal.any-requires
any-requires c = record { asks = subscribed c.args.node.now c.args.who.now }
