use Rattle.std.proofs.Common.{◌≡◌, ◌≤◌, List, None, arith, sym, subst, ◌∙◌}
use Rattle.std.specs.Prelude.{find}
use Rattle.std.proofs.lemmas.Slice.Eq.{bytes_eq-Decides}
use Rattle.ps_types.specs.Same.{same_bare}
use Rattle.ps_types.specs.declared.jid.Jid.{Jid}
use Rattle.ps_outbox.specs.Boxes.{Boxes, is_known, is_to, spare_for}
use Rattle.ps_outbox.proofs.Asked.{address_of}
use Rattle.ps_outbox.proofs.Keeping.{back_as, copied_none, one_back, one_gone, released_as, spare_kept}
use Rattle.ps_outbox.proofs.boxes.Outboxes.release.Goals as goal

pub take_away-requires : goal.take_away-requires
take_away-requires c = record { asks = address_of c.args.bare }

pub invariant_of-self : goal.invariant_of-self
invariant_of-self c =
    one_back c.self.inside.waiting.rows c.self.inside.free c.add.new.self c.self.inside.held.rows c.take_away.new.self.rows c.self.inside.last c.self.inside.in_order c.args.bare
    c.add.ensures.rows c.add.ensures.room c.take_away.ensures.rows ((bytes_eq-Decides c.args.bare.resource _).1 c.requires.bare)
    (subst (λ (b : Boxes). is_known c.args.bare b.held ≡ _) (sym c.self.view_is) c.requires.held) c.self.invariant

pub invariant_of-self-else-waits : goal.invariant_of-self-else-waits
invariant_of-self-else-waits c =
    one_gone c.self.inside.waiting.rows c.self.inside.free c.self.inside.held.rows c.take_away.new.self.rows c.self.inside.last c.self.inside.in_order c.args.bare c.take_away.ensures.rows
    (subst (λ (b : Boxes). find (is_to c.args.bare) b.waiting ≡ None) (sym c.self.view_is) (sym c.first.ensures ∙ copied_none c.first.result (sym c.is_some-waits.ensures ∙ c.if-waits.false)))
    c.self.invariant

pub returns-then-waits-clause-kept : goal.returns-then-waits-clause-kept
returns-then-waits-clause-kept c = λ who far.
    let now : Boxes = record { waiting = c.self.inside.waiting.rows; free = c.add.new.self.rows; held = c.take_away.new.self.rows; room = c.self.inside.waiting.spare } in
    let was : Boxes = record { waiting = c.self.inside.waiting.rows; free = c.self.inside.free.rows; held = c.self.inside.held.rows; room = c.self.inside.waiting.spare } in
    subst (λ (b : Boxes). spare_for who b ≤ spare_for who now) c.self.view_is
    (spare_kept was now who (omega arith) (back_as c.self.inside.free.rows c.add.new.self.rows c.self.inside.held.rows c.take_away.new.self.rows c.args.bare who c.add.ensures.rows
    c.take_away.ensures.rows))

pub returns-then-waits-clause-own : goal.returns-then-waits-clause-own
returns-then-waits-clause-own c = λ some.
    let who = c.args.bare in
    let now : Boxes = record { waiting = c.self.inside.waiting.rows; free = c.add.new.self.rows; held = c.take_away.new.self.rows; room = c.self.inside.waiting.spare } in
    let was : Boxes = record { waiting = c.self.inside.waiting.rows; free = c.self.inside.free.rows; held = c.self.inside.held.rows; room = c.self.inside.waiting.spare } in
    subst (λ (b : Boxes). spare_for who b ≤ spare_for who now) c.self.view_is
    (spare_kept was now who (omega arith) (back_as c.self.inside.free.rows c.add.new.self.rows c.self.inside.held.rows c.take_away.new.self.rows c.args.bare who c.add.ensures.rows
    c.take_away.ensures.rows))

pub returns-else-waits-clause-kept : goal.returns-else-waits-clause-kept
returns-else-waits-clause-kept c = λ who far.
    let now : Boxes = record { waiting = c.self.inside.waiting.rows; free = c.self.inside.free.rows; held = c.take_away.new.self.rows; room = c.self.inside.waiting.spare } in
    let was : Boxes = record { waiting = c.self.inside.waiting.rows; free = c.self.inside.free.rows; held = c.self.inside.held.rows; room = c.self.inside.waiting.spare } in
    subst (λ (b : Boxes). spare_for who b ≤ spare_for who now) c.self.view_is
    (spare_kept was now who (omega arith) (released_as c.self.inside.free.rows c.self.inside.held.rows c.take_away.new.self.rows c.args.bare who c.take_away.ensures.rows far))
