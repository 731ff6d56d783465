use Rattle.std.proofs.Common.{◌≡◌, ◌≤◌, None, arith, sym, subst, ◌∙◌}
use Rattle.std.specs.Prelude.{find}
use Rattle.ps_types.specs.declared.jid.Jid.{Jid}
use Rattle.ps_outbox.specs.Boxes.{Boxes, is_to, spare_for}
use Rattle.ps_outbox.proofs.Asked.{address_of}
use Rattle.ps_outbox.proofs.Keeping.{copied_none, forgotten_as, one_forgotten, spare_kept}
use Rattle.ps_outbox.proofs.boxes.Outboxes.forget.Goals as goal

pub take_away-requires : goal.take_away-requires
take_away-requires c = record { asks = address_of c.args.bare.now }

pub invariant_of-self : goal.invariant_of-self
invariant_of-self c =
    one_forgotten c.self.inside.waiting.rows c.self.inside.free c.take_away.new.self c.self.inside.held.rows c.self.inside.last c.self.inside.in_order c.args.bare.now c.take_away.ensures.rows
    c.take_away.ensures.room
    (subst (λ (b : Boxes). find (is_to c.args.bare.now) b.waiting ≡ None) (sym c.self.view_is) (sym c.first.ensures ∙ copied_none c.first.result (c.if-is_none.ensures))) c.self.invariant

pub returns-then-is_none-clause-kept : goal.returns-then-is_none-clause-kept
returns-then-is_none-clause-kept c = λ who far.
    let now : Boxes = record { waiting = c.self.inside.waiting.rows; free = c.take_away.new.self.rows; held = c.self.inside.held.rows; room = c.self.inside.waiting.spare } in
    let was : Boxes = record { waiting = c.self.inside.waiting.rows; free = c.self.inside.free.rows; held = c.self.inside.held.rows; room = c.self.inside.waiting.spare } in
    subst (λ (b : Boxes). spare_for who b ≤ spare_for who now) c.self.view_is
    (spare_kept was now who (omega arith) (forgotten_as c.self.inside.free.rows c.take_away.new.self.rows c.self.inside.held.rows c.args.bare.now who c.take_away.ensures.rows far))
