use Rattle.ps_outbox.proofs.Asked.{address_of}
use Rattle.ps_outbox.proofs.boxes.Outboxes.is_held.Goals as goal

pub any-requires : goal.any-requires
any-requires c = record { asks = address_of c.args.bare.now }
