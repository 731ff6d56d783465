use Rattle.std.proofs.Common.{◌≡◌, List, sym, subst}
use Rattle.ps_types.specs.declared.entry.Notice.{Notice}
use Rattle.ps_outbox.specs.Boxes.{is_to}
use Rattle.ps_outbox.specs.Kept.{QueuesAreKept}
use Rattle.ps_outbox.proofs.Asked.{to_bare}
use Rattle.ps_outbox.proofs.Keeping.{notice_less}
use Rattle.ps_outbox.proofs.boxes.Outboxes.drop_first.Goals as goal

pub take_first-requires : goal.take_first-requires
take_first-requires c = record { asks = to_bare c.args.bare.now }

pub invariant_of-self : goal.invariant_of-self
invariant_of-self c =
    subst (λ (l : List Notice). QueuesAreKept l c.self.inside.free c.self.inside.held.rows c.self.inside.last c.self.inside.in_order) (sym c.take_first.ensures.rows)
    (notice_less (is_to c.args.bare.now) c.self.inside.waiting.rows c.self.inside.free c.self.inside.held.rows c.self.inside.last c.self.inside.in_order c.self.invariant)
