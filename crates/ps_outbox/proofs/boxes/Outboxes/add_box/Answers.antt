use Rattle.std.proofs.Common.{◌++◌, ◌∷◌, [], List, length, ap, arith, sym, ◌∙◌}
use Rattle.ps_types.specs.declared.jid.Jid.{Jid}
use Rattle.ps_outbox.specs.Boxes.{Boxes, has_box}
use Rattle.ps_outbox.specs.Kept.{is_bare}
use Rattle.ps_outbox.proofs.Asked.{address_of}
use Rattle.ps_outbox.proofs.Keeping.{address_more, not_known, own_box}
use Rattle.ps_outbox.proofs.Readied.{to_its_bare}
use Rattle.ps_outbox.proofs.boxes.Outboxes.add_box.Goals as goal

pub any-requires : goal.any-requires
any-requires c = record { asks = address_of c.args.to.now }

pub any-requires-else-any : goal.any-requires-else-any
any-requires-else-any c = record { asks = address_of c.args.to.now }

pub invariant_of-self-2 : goal.invariant_of-self-2
invariant_of-self-2 c =
    let b = c.in_ok-bare.bare in
    let bare_is = to_its_bare c.args.to.now b c.in_ok-bare.ensures in
    address_more c.self.inside.waiting.rows c.self.inside.free c.add.new.self c.self.inside.held.rows c.self.inside.last c.self.inside.in_order b
    (c.add.ensures.rows ∙ ap (λ (l : List Jid). l ++ b ∷ []) c.reserve.ensures.rows)
    (let r = c.in_ok-reserve.ensures.room in let e = c.in_ok-rooms.ensures in let m = c.add.ensures.room in let v = ap (λ (b : Boxes). length b.held) c.self.view_is in omega (arith, r, e, m, v))
    (ap is_bare c.in_ok-bare.ensures)
    (not_known c.args.to.now b bare_is c.self.inside.held.rows (sym c.any-else-any.ensures ∙ c.if-any-2.false)) c.self.invariant

pub returns-clause-known : goal.returns-clause-known
returns-clause-known c =
    let b = c.in_ok-bare.bare in
    ap (λ l. has_box l c.self.inside.held.rows c.args.to.now) (c.add.ensures.rows ∙ ap (λ (l : List Jid). l ++ b ∷ []) c.reserve.ensures.rows)
    ∙ own_box c.self.inside.free.rows c.self.inside.held.rows b c.args.to.now (to_its_bare c.args.to.now b c.in_ok-bare.ensures)
