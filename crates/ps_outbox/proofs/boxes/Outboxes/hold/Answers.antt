use Rattle.std.proofs.Common.{◌≤◌, ◌++◌, ◌∷◌, [], List, length, ap, arith, subst, ◌∙◌}
use Rattle.ps_base.specs.Rows.{without}
use Rattle.ps_types.specs.Same.{same_bare}
use Rattle.ps_types.specs.declared.jid.Jid.{Jid}
use Rattle.ps_outbox.specs.Boxes.{Boxes, spare_for}
use Rattle.ps_outbox.proofs.Asked.{address_of}
use Rattle.ps_outbox.proofs.Keeping.{held_as, one_held, spare_kept}
use Rattle.ps_outbox.proofs.boxes.Outboxes.hold.Goals as goal

pub take_away-requires : goal.take_away-requires
take_away-requires c = record { asks = address_of c.args.bare }

pub invariant_of-self-2 : goal.invariant_of-self-2
invariant_of-self-2 c =
    one_held c.self.inside.waiting.rows c.self.inside.free c.take_away.new.self c.self.inside.held.rows c.add.new.self.rows c.self.inside.last c.self.inside.in_order c.args.bare
    (c.take_away.ensures.rows ∙ ap (without (same_bare c.args.bare)) c.reserve.ensures.rows)
    (let r = c.in_ok-reserve.ensures.room in let e = c.in_ok-rooms.ensures in let m = c.take_away.ensures.room in let v = ap (λ (b : Boxes). length b.held) c.self.view_is in omega (arith, r, e, m, v))
    (c.add.ensures.rows ∙ ap (λ (l : List Jid). l ++ c.args.bare ∷ []) c.reserve-2.ensures.rows) c.self.invariant

pub returns-clause-kept : goal.returns-clause-kept
returns-clause-kept c = λ who.
    let now : Boxes = record { waiting = c.self.inside.waiting.rows; free = c.take_away.new.self.rows; held = c.add.new.self.rows; room = c.self.inside.waiting.spare } in
    let was : Boxes = record { waiting = c.self.inside.waiting.rows; free = c.self.inside.free.rows; held = c.self.inside.held.rows; room = c.self.inside.waiting.spare } in
    subst (λ (b : Boxes). spare_for who b ≤ spare_for who now) c.self.view_is
    (spare_kept was now who (omega arith)
    (held_as c.self.inside.free.rows c.take_away.new.self.rows c.self.inside.held.rows c.add.new.self.rows c.args.bare who
    (c.take_away.ensures.rows ∙ ap (without (same_bare c.args.bare)) c.reserve.ensures.rows)
    (c.add.ensures.rows ∙ ap (λ (l : List Jid). l ++ c.args.bare ∷ []) c.reserve-2.ensures.rows)))
