use Rattle.std.proofs.Common.{Option, Some, ap, sym, subst, ◌∙◌}
use Rattle.ps_outbox.specs.Boxes.{Boxes, IsReady, NoneReady}
use Rattle.ps_outbox.specs.Kept.{QueuesAreKept}
use Rattle.ps_outbox.proofs.Asked.{ready_at}
use Rattle.ps_outbox.proofs.Readied.{none_durable, none_found, ready_found}
use Rattle.ps_outbox.proofs.boxes.Outboxes.ready.Goals as goal

pub returns-then-not-shows-clause-none : goal.returns-then-not-shows-clause-none
returns-then-not-shows-clause-none c =
    let s = c.self.inside in
    let kept : QueuesAreKept c.args.self.now.waiting s.free c.args.self.now.held s.last s.in_order = subst (λ (b : Boxes). QueuesAreKept b.waiting s.free b.held s.last s.in_order) c.self.view_is
    c.self.invariant in
    none_durable c.args.host.now c.args.durable c.args.self.now.waiting s.free c.args.self.now.held s.last s.in_order c.if-self.true kept (sym c.shows.ensures ∙ c.if-not-shows.true)

pub returns-in-Some-clause-some : goal.returns-in-Some-clause-some
returns-in-Some-clause-some c =
    let s = c.self.inside in
    subst (λ (b : Boxes). IsReady c.args.host.now c.args.durable c.row.inside.bare b.waiting b.held) c.self.view_is
    (ready_found c.args.host.now c.args.durable s.waiting.rows s.free s.held.rows s.last s.in_order c.row.inside.bare c.self.invariant
    (sym c.in-Some.ensures.row ∙ ap (λ j. Some j) (sym c.row.view_is)))

pub returns-in-None-clause-none : goal.returns-in-None-clause-none
returns-in-None-clause-none c =
    let s = c.self.inside in
    subst (λ (b : Boxes). NoneReady c.args.host.now c.args.durable b.waiting b.held) c.self.view_is
    (none_found c.args.host.now c.args.durable s.waiting.rows s.free s.held.rows s.last s.in_order c.self.invariant (sym c.in-None.ensures.row))
