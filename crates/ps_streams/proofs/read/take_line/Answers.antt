use Rattle.std.proofs.Common.{◌+◌, ℕ, List, [], ◌∷◌, refl, sym, ap, ◌∙◌, subst}
use Rattle.std.proofs.lemmas.Result.{err_from_is_err_and}
use Rattle.ps_twin.specs.Seats.{number_of, seen_of}
use Rattle.ps_hall_state.specs.Arrive.{IsOpen}
use Rattle.ps_hall_flush.specs.Homes.{world_at}
use Rattle.ps_streams.proofs.Bringing.{brought-later, brought-none, laid-err, laid-ok}
use Rattle.ps_streams.proofs.Causes.{laid-memory, laid-store}
use Rattle.ps_streams.proofs.Fronts.{closed-later, laid-closed}
use Rattle.ps_streams.proofs.Looping.{err-same}
use Rattle.ps_streams.proofs.read.take_line.Goals as goal

pub loop-init : goal.loop-init
loop-init g c = (
  c.requires.reader,
  record { at = refl; host = refl },
  brought-none g.B.Opening.origin (number_of c.args.pass.now.seat) (seen_of c.args.pass.now.seat) c.requires.reader.pass.owned,
)

pub loop-preserved : goal.loop-preserved
loop-preserved g c =
    let i = c.loop.invariant in
    let o = g.B.Opening.origin in
    let k = number_of c.args.pass.now.seat in
    let j = number_of c.loop.pass.seat in
    let old = seen_of c.args.pass.now.seat in
    let mid = seen_of c.loop.pass.seat in
    let found = seen_of c.lay.new.pass.seat in
    let new = seen_of c.make_room.new.pass.seat in
    let same = i.0.number ∙ (ap (λ n. n + n) i.1.at ∙ sym c.requires.reader.number) in
    let l = c.lay.ensures in
    let m = c.make_room.ensures in
    let later = l.reader.number ∙ (ap (λ n. n + n) (l.same.0 ∙ i.1.at) ∙ sym c.requires.reader.number) in (
      m.reader,
      record { at = m.same.at ∙ (l.same.0 ∙ i.1.at); host = m.same.host ∙ (l.same.1 ∙ i.1.host) },
      brought-later o (number_of c.lay.new.pass.seat) k old found new [] later
          (brought-later o j k old mid found [] same i.2 (laid-err o j c.loop.pass.host c.args.arrival.now mid found c.in-Err-Again.field-0 c.in-Err-Again.ensures.does))
          m.brings,
    )

pub returns-in_err-make_room-in-Err-Again-clause-takes : goal.returns-in_err-make_room-in-Err-Again-clause-takes
returns-in_err-make_room-in-Err-Again-clause-takes g c =
    let i = c.loop.invariant in
    let o = g.B.Opening.origin in
    let k = number_of c.args.pass.now.seat in
    let j = number_of c.loop.pass.seat in
    let old = seen_of c.args.pass.now.seat in
    let mid = seen_of c.loop.pass.seat in
    let found = seen_of c.lay.new.pass.seat in
    let new = seen_of c.make_room.new.pass.seat in
    let same = i.0.number ∙ (ap (λ n. n + n) i.1.at ∙ sym c.requires.reader.number) in
    let l = c.lay.ensures in
    let m = c.make_room.ensures in
    let later = l.reader.number ∙ (ap (λ n. n + n) (l.same.0 ∙ i.1.at) ∙ sym c.requires.reader.number) in
    let p = err_from_is_err_and c.from_residual.result c.from_residual.ensures.1 in
    rw p.1 (brought-later o (number_of c.lay.new.pass.seat) k old found new [] later
    (brought-later o j k old mid found [] same i.2 (laid-err o j c.loop.pass.host c.args.arrival.now mid found c.in-Err-Again.field-0 c.in-Err-Again.ensures.does))
    m.brings)

pub returns-in-Ok-clause-takes : goal.returns-in-Ok-clause-takes
returns-in-Ok-clause-takes g c =
    let i = c.loop.invariant in
    let o = g.B.Opening.origin in
    let k = number_of c.args.pass.now.seat in
    let j = number_of c.loop.pass.seat in
    let mid = seen_of c.loop.pass.seat in
    let new = seen_of c.lay.new.pass.seat in
    let same = i.0.number ∙ (ap (λ n. n + n) i.1.at ∙ sym c.requires.reader.number) in
    brought-later o j k (seen_of c.args.pass.now.seat) mid new (c.args.arrival.now ∷ []) same i.2 (laid-ok o j c.loop.pass.host c.args.arrival.now mid new c.in-Ok.field-0 c.in-Ok.ensures.does)

pub returns-in-Err-clause-takes : goal.returns-in-Err-clause-takes
returns-in-Err-clause-takes g c =
    let i = c.loop.invariant in
    let o = g.B.Opening.origin in
    let k = number_of c.args.pass.now.seat in
    let j = number_of c.loop.pass.seat in
    let mid = seen_of c.loop.pass.seat in
    let new = seen_of c.lay.new.pass.seat in
    let same = i.0.number ∙ (ap (λ n. n + n) i.1.at ∙ sym c.requires.reader.number) in
    brought-later o j k (seen_of c.args.pass.now.seat) mid new [] same i.2 (laid-err o j c.loop.pass.host c.args.arrival.now mid new c.in-Err.refusal c.in-Err.ensures.does)

pub returns-in-Err-clause-store : goal.returns-in-Err-clause-store
returns-in-Err-clause-store g c = λ e.
    laid-store g.B.Opening.origin (number_of c.loop.pass.seat) c.loop.pass.host c.args.arrival.now (seen_of c.loop.pass.seat) (seen_of c.lay.new.pass.seat) c.in-Err.refusal
    (c.end_of_line.ensures.from_store (err-same c.end_of_line.result _ e)) c.in-Err.ensures.does

pub returns-in-Err-clause-closed : goal.returns-in-Err-clause-closed
returns-in-Err-clause-closed g c = λ e none. (
    let i = c.loop.invariant in
    let o = g.B.Opening.origin in
    let k = number_of c.args.pass.now.seat in
    let j = number_of c.loop.pass.seat in
    let old = seen_of c.args.pass.now.seat in
    let mid = seen_of c.loop.pass.seat in
    let new = seen_of c.lay.new.pass.seat in
    let same = i.0.number ∙ (ap (λ n. n + n) i.1.at ∙ sym c.requires.reader.number) in
    closed-later o j k c.loop.pass.host c.args.pass.now.host old mid new [] same i.1.host i.2
    (λ mine. laid-closed o j c.loop.pass.host c.args.arrival.now mid new c.in-Err.refusal (c.end_of_line.ensures.from_closed (err-same c.end_of_line.result _ e)) mine c.in-Err.ensures.does) none)

pub returns-in-Err-clause-memory : goal.returns-in-Err-clause-memory
returns-in-Err-clause-memory g c = λ e.
    let o = g.B.Opening.origin in
    let new = seen_of c.lay.new.pass.seat in
    subst (λ (h : List ℕ). IsOpen (world_at o new) h) c.loop.invariant.1.host
    (laid-memory o (number_of c.loop.pass.seat) c.loop.pass.host c.args.arrival.now (seen_of c.loop.pass.seat) new c.in-Err.refusal
    (c.end_of_line.ensures.from_memory (err-same c.end_of_line.result _ e)) c.in-Err.ensures.does)
