use Rattle.std.proofs.Common.{◌≡◌, ◌≤◌, ◌+◌, ◌++◌, ◌∙◌, ap, subst, arith, append-nil, Some, ℕ}
use Rattle.ps_base.specs.Rows.{without, without_first}
use Rattle.ps_types.specs.Same.{same_bare}
use Rattle.ps_types.specs.declared.entry.Entry.{Entry}
use Rattle.ps_types.specs.declared.entry.Entry.TheVariants.{Handed}
use Rattle.ps_types.specs.declared.jid.Jid.{Jid}
use Rattle.ps_model.specs.After.{after, notices_at}
use Rattle.ps_model.specs.declared.steps.Step.TheVariants.{Record}
use Rattle.ps_outbox.specs.Boxes.{is_known, is_to}
use Rattle.ps_hall_state.specs.declared.state.State.{State}
use Rattle.ps_hall_state.specs.Rows.{RowChanged, RowLandsBy}
use Rattle.ps_hall_state.specs.Stand.{bytes_with}
use Rattle.ps_hall_state.specs.Steps.{KeepsRest}
use Rattle.ps_hall_state.proofs.Calling.{recorded_ok}
use Rattle.ps_hall_state.proofs.Recording.{handed_accepted, handed_sketch, held_there, record_ok}
use Rattle.ps_hall_state.proofs.Stepping.{BatchOn, batch_more, numbers_kept, taken}
use Rattle.ps_hall_state.proofs.state.State.lay_handed.Goals as goal

pub ready_within-requires-clause-sketch : goal.ready_within-requires-clause-sketch
ready_within-requires-clause-sketch g c κs within = handed_sketch c.args.self.now c.args.at c.args._a.now c.args.recording.entry c.requires.here c.requires.standing c.requires.held c.requires.is.entry

pub ready_within-requires-clause-accepted : goal.ready_within-requires-clause-accepted
ready_within-requires-clause-accepted g c κs within = handed_accepted c.args.self.now c.args.at c.args._a.now c.args.recording.entry c.requires.here c.requires.standing c.requires.held
    c.requires.is.entry

pub release-requires-clause-bare : goal.release-requires-clause-bare
release-requires-clause-bare g c = ap (λ (j : Jid). j.resource) c.requires.is.held ∙ (held_there c.args.self.now c.args.at c.args._a.now c.requires.here c.requires.held).0

pub release-requires-clause-held : goal.release-requires-clause-held
release-requires-clause-held g c =
    let known = (held_there c.args.self.now c.args.at c.args._a.now c.requires.here c.requires.held).1 in
    ap (λ (j : Jid). is_known j c.drop_first.new.self.held) c.requires.is.held ∙
    (ap (is_known c.args._a.now) (c.drop_first.ensures.held ∙ (c.take_entry.ensures.held ∙ c.in-Ok.ensures.ok.held)) ∙ known)

pub returns-in-Ok-clause-kept : goal.returns-in-Ok-clause-kept
returns-in-Ok-clause-kept g c =
    let r = c.in-Ok.ensures.ok in
    let k = r.rest in
    let h = c.land_at.ensures.lands in
    numbers_kept c.args.self.now _ c.args.at h.0 h.1 (subst (λ rows. RowChanged rows.items c.land_at.new.rows.items c.args.at h.0 h.1) r.rows h.2) h.3.host
    (record { count = k.count; length_same = k.length_same; broken = k.broken; flushed = k.flushed; durable_same = k.durable_same; limits = k.limits })

pub returns-in-Ok-clause-ok : goal.returns-in-Ok-clause-ok
returns-in-Ok-clause-ok g c =
    let v = c.args.self.now in
    let a = c.args._a.now in
    let own = c.requires.is in
    let e = c.args.recording.entry in
    let kind : e ≡ Handed a = own.entry in
    let r = c.in-Ok.ensures.ok in
    let k = r.rest in
    let mid = c.ready_within.new.self in
    let now : State = record mid { service = c.take_entry.new.service; queues = c.release.new.self; rows = c.land_at.new.rows; steps = mid.steps + 1 } in
    let kept : KeepsRest v now = record { count = k.count; length_same = k.length_same; broken = k.broken; flushed = k.flushed; durable_same = k.durable_same; limits = k.limits } in
    let t = taken v c.ready_within.new.self e c.in-Ok.notices.items c.take_entry.new.service c.take_entry.new.queues.waiting r c.take_entry.ensures.state c.take_entry.ensures.waiting in
    let room = subst (λ (x : Entry). v.length + bytes_with v.batch x ≤ v.limits.whole) kind c.in-Ok.ensures.room in
    let h = c.land_at.ensures.lands in
    let changed = subst (λ rows. RowChanged rows.items c.land_at.new.rows.items c.args.at h.0 h.1) r.rows h.2 in
    let queues : now.queues.waiting ≡ without_first (is_to a) v.queues.waiting =
    c.release.ensures.waiting ∙ (c.drop_first.ensures.waiting ∙ (ap (λ (j : Jid). without_first (is_to j) c.take_entry.new.queues.waiting) own.to
    ∙ ap (without_first (is_to a)) (t.1 ∙ (ap (λ x. v.queues.waiting ++ notices_at v.service.state x) kind ∙ append-nil v.queues.waiting)))) in
    let held : now.queues.held ≡ without (same_bare a) v.queues.held =
    c.release.ensures.held ∙ (ap (λ (j : Jid). without (same_bare j) c.drop_first.new.self.held) own.held ∙ ap (without (same_bare a))
    (c.drop_first.ensures.held ∙ (c.take_entry.ensures.held ∙ r.held))) in
    recorded_ok v now (Handed a) (Record a) c.requires.unbroken room
    (record_ok v now c.args.at h.0 h.1 a changed.was (c.requires.held h.0 changed.was)
    (subst (λ (j : Jid). RowLandsBy j (v.steps + 1) h.0 h.1) own.to (subst (λ (n : ℕ). RowLandsBy c.args.recording.to (n + 1) h.0 h.1) r.steps h.3)) changed.is
    (t.0 ∙ ap (λ x. after v.service.state x) kind) queues held
    (subst (λ (x : Entry). BatchOn v now (Some x)) kind (batch_more v now e t.0 r.batch kept (let l = c.requires.standing.1.within.whole in let m = c.in-Ok.ensures.room in omega (arith, m, l)))) kept
    (ap (λ n. n + 1) r.steps))
