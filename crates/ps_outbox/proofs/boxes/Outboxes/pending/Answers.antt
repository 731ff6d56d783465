use Rattle.ps_outbox.proofs.Asked.{to_bare, kin_to_bare}
use Rattle.ps_outbox.proofs.boxes.Outboxes.pending.Goals as goal

pub count_node-requires : goal.count_node-requires
count_node-requires c = record { asks = to_bare c.args.bare.now; kin = kin_to_bare c.args.bare.now }
