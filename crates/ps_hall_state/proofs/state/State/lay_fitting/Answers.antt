use Rattle.std.proofs.Common.{◌≡◌, ◌+◌, ◌++◌, refl, sym, ◌∙◌, ap, subst, arith, false, List, Option, Some, ℕ}
use Rattle.std.specs.Prelude.{IfSome, IsSome, slice_get}
use Rattle.ps_types.specs.declared.entry.Entry.{Entry}
use Rattle.ps_types.specs.declared.entry.Notice.{Notice}
use Rattle.ps_model.specs.After.{after, notices_at}
use Rattle.ps_hall_state.specs.declared.state.HostRow.{HostRow}
use Rattle.ps_hall_state.specs.Rows.{RowChanged, RowSays}
use Rattle.ps_hall_state.specs.Steps.{KeepsRest}
use Rattle.ps_hall_state.proofs.Calling.{fits_is, laid_ok, lines_ok, no_memory, prepares_at, sketch_ok, state_few}
use Rattle.ps_hall_state.proofs.OneRow.{same_some}
use Rattle.ps_hall_state.proofs.Stepping.{batch_more, keeps_then, lay_ok, numbers_kept}
use Rattle.ps_hall_state.proofs.state.State.lay_fitting.Goals as goal

pub make_ready-requires-clause-sketch : goal.make_ready-requires-clause-sketch
make_ready-requires-clause-sketch g c κs within = sketch_ok c.args.self.now c.args.at c.args._arrival.now c.args.making.entry c.requires.here c.requires.standing c.requires.arrival c.requires.entry

pub make_ready-requires-clause-accepted : goal.make_ready-requires-clause-accepted
make_ready-requires-clause-accepted g c κs within = prepares_at c.args.self.now c.args.at c.args._arrival.now c.args.making.entry c.requires.here c.requires.standing c.requires.entry

pub make_ready-requires-clause-few : goal.make_ready-requires-clause-few
make_ready-requires-clause-few g c κs within = state_few c.args.self.now c.requires.standing

pub make_ready-requires-clause-fits : goal.make_ready-requires-clause-fits
make_ready-requires-clause-fits g c κs within = let r = c.requires.room in let l = c.requires.standing.1.within.changes in omega (arith, r, l)

pub returns-in-Err-clause-err : goal.returns-in-Err-clause-err
returns-in-Err-clause-err g c = λ row was. no_memory c.args.self.now c.make_ready.new.self c.args.at row was (c.requires.opened row was) c.in-Err.ensures.err

pub take_entry-requires-clause-prepared : goal.take_entry-requires-clause-prepared
take_entry-requires-clause-prepared g c = subst (λ (o : Option Entry). IsSome o) (sym c.in-Ok.ensures.ok.prepared) refl

pub take_entry-requires-clause-room : goal.take_entry-requires-clause-room
take_entry-requires-clause-room g c = c.in-Ok.ensures.ok.room

pub say-requires-clause-lines : goal.say-requires-clause-lines
say-requires-clause-lines g c = λ row was.
    lines_ok c.args.self.now c.args.at c.requires.standing c.requires.few c.requires.opened row (subst (λ rows. slice_get rows.items c.args.at ≡ Some row) c.in-Ok.ensures.ok.rows was)

pub returns-in-Ok-clause-kept : goal.returns-in-Ok-clause-kept
returns-in-Ok-clause-kept g c =
    let r = c.in-Ok.ensures.ok in
    let says = c.say.ensures.says in
    let k = c.say.ensures.on.rest in
    let mid = c.make_ready.new.self in
    let k' : KeepsRest mid c.say.new.self = record { count = k.count; length_same = k.length_same; broken = k.broken; flushed = k.flushed; durable_same = k.durable_same; limits = k.limits } in
    numbers_kept c.args.self.now c.say.new.self c.args.at says.0 says.1 (subst (λ rows. RowChanged rows.items c.say.new.self.rows.items c.args.at says.0 says.1) r.rows says.2) says.3.host
    (keeps_then c.args.self.now mid c.say.new.self r.rest k')

pub returns-in-Ok-clause-ok : goal.returns-in-Ok-clause-ok
returns-in-Ok-clause-ok g c = λ row was.
    let v = c.args.self.now in
    let e = c.args.making.entry in
    let mid = c.make_ready.new.self in
    let now = c.say.new.self in
    let r = c.in-Ok.ensures.ok in
    let says = c.say.ensures.says in
    let on = c.say.ensures.on in
    let k = on.rest in
    let k' : KeepsRest mid now = record { count = k.count; length_same = k.length_same; broken = k.broken; flushed = k.flushed; durable_same = k.durable_same; limits = k.limits } in
    let kept = keeps_then v mid now r.rest k' in
    let changed = subst (λ rows. RowChanged rows.items now.rows.items c.args.at says.0 says.1) r.rows says.2 in
    let same : says.0 ≡ row = same_some says.0 row (sym changed.was ∙ was) in
    let took = subst (λ (o : Option Entry). IfSome o (λ x. c.take_entry.new.service.state ≡ after mid.service.state x)) r.prepared c.take_entry.ensures.state in
    let state : now.service.state ≡ after v.service.state e = c.say.ensures.state ∙ (took ∙ ap (λ s. after s e) r.state) in
    let queues : now.queues.waiting ≡ v.queues.waiting ++ notices_at v.service.state e =
    on.queues ∙ (c.take_entry.ensures.waiting ∙ (ap (λ q. q ++ c.in-Ok.notices.items) r.queues ∙ ap (λ (n : List Notice). v.queues.waiting ++ n) r.notices_are)) in
    let steps : now.steps ≡ v.steps + 1 = on.steps ∙ ap (λ n. n + 1) r.steps in
    laid_ok v now c.args.at row c.args._arrival.now _ false c.args.reply (Some e) was (c.requires.opened row was) (c.requires.reply row was) (c.requires.entry row was)
    (fits_is v.limits.changes v.length v.batch e c.requires.room) c.count-place.ensures.count refl
    (lay_ok v now c.args.at row says.1 c.args._arrival.now false c.args.reply (Some e) was
    (subst (λ (x : HostRow). RowSays x says.1 (v.steps + 1) c.args.reply) same (subst (λ (n : ℕ). RowSays says.0 says.1 (n + 1) c.args.reply) r.steps says.3)) changed.is
    state queues (c.requires.reply row was) (c.requires.entry row was) (on.held ∙ (c.take_entry.ensures.held ∙ r.held))
    (batch_more v now e state (on.batch ∙ r.batch) kept (let m = c.requires.room in let l = c.requires.standing.1.within.changes in omega (arith, m, l))) kept steps)
