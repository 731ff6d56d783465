use Rattle.std.proofs.Common.{◌+◌, ◌++◌, ◌∙◌, ap, subst, arith, Some}
use Rattle.ps_types.specs.declared.entry.Entry.{Entry}
use Rattle.ps_model.specs.After.{after, notices_at}
use Rattle.ps_model.specs.declared.steps.Step.TheVariants.{Gone}
use Rattle.ps_hall_state.specs.declared.state.State.{State}
use Rattle.ps_hall_state.specs.Steps.{KeepsRest}
use Rattle.ps_hall_state.proofs.Calling.{gone_accepted, recorded_ok}
use Rattle.ps_hall_state.proofs.Stepping.{BatchOn, batch_more, gone_ok, taken}
use Rattle.ps_hall_state.proofs.state.State.lay_gone.Goals as goal

pub ready_within-requires-clause-accepted : goal.ready_within-requires-clause-accepted
ready_within-requires-clause-accepted g c κs within = gone_accepted c.args.self.now c.args.entry c.requires.standing c.requires.gone

pub returns-in-Ok-clause-ok : goal.returns-in-Ok-clause-ok
returns-in-Ok-clause-ok g c = λ host kind.
    let v = c.args.self.now in
    let e = c.args.entry in
    let r = c.in-Ok.ensures.ok in
    let k = r.rest in
    let mid = c.ready_within.new.self in
    let now : State = record mid { service = c.take_entry.new.service; queues = c.take_entry.new.queues; steps = mid.steps + 1 } in
    let kept : KeepsRest v now = record { count = k.count; length_same = k.length_same; broken = k.broken; flushed = k.flushed; durable_same = k.durable_same; limits = k.limits } in
    let t = taken v c.ready_within.new.self e c.in-Ok.notices.items c.take_entry.new.service c.take_entry.new.queues.waiting r c.take_entry.ensures.state c.take_entry.ensures.waiting in
    let room = c.in-Ok.ensures.room in
    recorded_ok v now e (Gone host) c.requires.unbroken room
    (gone_ok v now host (t.0 ∙ ap (λ x. after v.service.state x) kind) (t.1 ∙ ap (λ x. v.queues.waiting ++ notices_at v.service.state x) kind) r.rows (c.take_entry.ensures.held ∙ r.held)
    (subst (λ (x : Entry). BatchOn v now (Some x)) kind (batch_more v now e t.0 r.batch kept (let l = c.requires.standing.1.within.whole in omega (arith, room, l)))) kept (ap (λ n. n + 1) r.steps))
