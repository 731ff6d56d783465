use Rattle.ps_outbox.proofs.Asked.{to_bare}
use Rattle.ps_outbox.proofs.asks.peek_in.Goals as goal

pub find-requires : goal.find-requires
find-requires c = record { asks = to_bare c.args.who.now }
