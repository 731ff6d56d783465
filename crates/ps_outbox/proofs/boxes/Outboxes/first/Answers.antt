use Rattle.ps_outbox.proofs.Asked.{to_bare}
use Rattle.ps_outbox.proofs.boxes.Outboxes.first.Goals as goal

pub find-requires : goal.find-requires
find-requires c = record { asks = to_bare c.args.who.now }
