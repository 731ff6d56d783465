use Rattle.std.proofs.Common.{◌+◌, ℕ, List, [], ◌∷◌, Option, inl, inr, sym, ap, ◌∙◌, subst}
use Rattle.std.proofs.lemmas.Result.{err_from_is_err_and}
use Rattle.std.specs.Prelude.{IfNone, IfSome}
use Rattle.ps_types.specs.declared.entry.Arrival.{Arrival}
use Rattle.ps_twin.specs.Seats.{number_of, seen_of}
use Rattle.ps_wire.specs.Reading.{rest_of, source_of}
use Rattle.ps_hall_state.specs.Arrive.{IsOpen}
use Rattle.ps_hall_flush.specs.Homes.{world_at}
use Rattle.ps_streams.specs.declared.read.ReadEnd.{ReadEnd}
use Rattle.ps_streams.specs.Reading.{Comes, NoneComes, brings_all}
use Rattle.ps_streams.proofs.Bringing.{brought-later}
use Rattle.ps_streams.proofs.Fronts.{closed-later}
use Rattle.ps_streams.proofs.Looping.{err-same, the_err}
use Rattle.ps_streams.proofs.Readings.{next-err, next-fault, next-none, next-ok, next-stop}
use Rattle.ps_streams.proofs.read.read_next.Goals as goal

pub take_line-requires-clause-arrival : goal.take_line-requires-clause-arrival
take_line-requires-clause-arrival g c κs within = (subst (λ (p : Option Arrival). IfSome p
    (Comes (rest_of c.args.lines.now) (rest_of c.next_arrival.new.lines) (g.C.Clock.told c.args.clock.now) (g.C.Clock.told c.next_arrival.new.clock))) c.in-Ok-Some.field-0-is
    c.in-Ok-Some.ensures.some).moment

pub returns-in-Ok-clause-read : goal.returns-in-Ok-clause-read
returns-in-Ok-clause-read g c =
    let o = g.B.Opening.origin in
    let k = number_of c.args.pass.now.seat in
    let old = seen_of c.args.pass.now.seat in
    let w = c.flush_to_wait.ensures in
    let mid = c.flush_to_wait.new.pass.seat in
    let same = w.reader.number ∙ (ap (λ n. n + n) w.same.at ∙ sym c.requires.reader.number) in
    let new = seen_of c.take_line.new.pass.seat in
    let before = rest_of c.args.lines.now in
    let left = rest_of c.next_arrival.new.lines in
    let told = g.C.Clock.told c.args.clock.now in
    let now = g.C.Clock.told c.next_arrival.new.clock in
    next-ok o k old new before left told now c.in-Ok-Some.arrival (subst (λ (p : Option Arrival). IfSome p (Comes before left told now)) c.in-Ok-Some.field-0-is c.in-Ok-Some.ensures.some)
    (brought-later o (number_of mid) k old (seen_of mid) new (c.in-Ok-Some.arrival ∷ []) same w.brings c.in-Ok.ensures.takes)

pub returns-in-Ok-Some-clause-read : goal.returns-in-Ok-Some-clause-read
returns-in-Ok-Some-clause-read g c =
    let o = g.B.Opening.origin in
    let k = number_of c.args.pass.now.seat in
    let old = seen_of c.args.pass.now.seat in
    let w = c.flush_to_wait.ensures in
    let mid = c.flush_to_wait.new.pass.seat in
    let same = w.reader.number ∙ (ap (λ n. n + n) w.same.at ∙ sym c.requires.reader.number) in
    let new = seen_of c.take_line.new.pass.seat in
    let before = rest_of c.args.lines.now in
    let left = rest_of c.next_arrival.new.lines in
    let told = g.C.Clock.told c.args.clock.now in
    let now = g.C.Clock.told c.next_arrival.new.clock in
    next-err o k old new before left told now (g.S.Source.left (source_of c.next_arrival.new.lines)) c.in-Ok-Some.arrival c.in-Err-take_line.end c.in-Err-take_line.ensures.some
    (subst (λ (p : Option Arrival). IfSome p (Comes before left told now)) c.in-Ok-Some.field-0-is c.in-Ok-Some.ensures.some)
    (brought-later o (number_of mid) k old (seen_of mid) new [] same w.brings c.in-Err-take_line.ensures.takes)

pub returns-in-Ok-None-clause-read : goal.returns-in-Ok-None-clause-read
returns-in-Ok-None-clause-read g c =
    let o = g.B.Opening.origin in
    let k = number_of c.args.pass.now.seat in
    let old = seen_of c.args.pass.now.seat in
    let w = c.flush_to_wait.ensures in
    let mid = c.flush_to_wait.new.pass.seat in
    let before = rest_of c.args.lines.now in
    let left = rest_of c.next_arrival.new.lines in
    let told = g.C.Clock.told c.args.clock.now in
    let now = g.C.Clock.told c.next_arrival.new.clock in
    next-none o k old (seen_of mid) w.brings before told now left (subst (λ (p : Option Arrival). IfNone p (NoneComes before left told now)) c.in-Ok-None.field-0-is c.in-Ok-None.ensures.none)

pub returns-clause-read : goal.returns-clause-read
returns-clause-read g c =
    let o = g.B.Opening.origin in
    let k = number_of c.args.pass.now.seat in
    let old = seen_of c.args.pass.now.seat in
    let w = c.flush_to_wait.ensures in
    let mid = c.flush_to_wait.new.pass.seat in
    let before = rest_of c.args.lines.now in
    let told = g.C.Clock.told c.args.clock.now in
    let now = g.C.Clock.told c.next_arrival.new.clock in
    next-stop o k old (seen_of mid) w.brings before told now (g.S.Source.left (source_of c.next_arrival.new.lines)) c.in-Err.end
    (λ e. c.in-Err.ensures.ended (ap (λ (x : ReadEnd). the_err (Option Arrival) x) e)) c.in-Err.ensures.cut c.in-Err.ensures.asked

pub returns-in_err-flush_to_wait-clause-read : goal.returns-in_err-flush_to_wait-clause-read
returns-in_err-flush_to_wait-clause-read g c =
    let o = g.B.Opening.origin in
    let k = number_of c.args.pass.now.seat in
    let old = seen_of c.args.pass.now.seat in
    let w = c.flush_to_wait.ensures in
    let mid = c.flush_to_wait.new.pass.seat in
    let p = err_from_is_err_and c.from_residual.result c.from_residual.ensures.1 in
    rw (p.1, p.2) (next-fault o k old (seen_of mid) w.brings (rest_of c.args.lines.now) (g.S.Source.left (source_of c.args.lines.now)) (g.C.Clock.told c.args.clock.now)
    c.in_err-flush_to_wait.field-0.0 c.in_err-flush_to_wait.ensures.fault.0)

pub returns-in-Ok-Some-clause-closed : goal.returns-in-Ok-Some-clause-closed
returns-in-Ok-Some-clause-closed g c = λ e none. (
    let o = g.B.Opening.origin in
    let k = number_of c.args.pass.now.seat in
    let old = seen_of c.args.pass.now.seat in
    let w = c.flush_to_wait.ensures in
    let mid = c.flush_to_wait.new.pass.seat in
    let same = w.reader.number ∙ (ap (λ n. n + n) w.same.at ∙ sym c.requires.reader.number) in
    closed-later o (number_of mid) k c.flush_to_wait.new.pass.host c.args.pass.now.host old (seen_of mid) (seen_of c.take_line.new.pass.seat) [] same w.same.host w.brings
    (c.in-Err-take_line.ensures.closed (ap (λ (x : ReadEnd). the_err (Unit {0}) x) (err-same c.in-Err-take_line.end _ e))) none)

pub returns-in-Ok-Some-clause-ended : goal.returns-in-Ok-Some-clause-ended
returns-in-Ok-Some-clause-ended g c = λ e. c.in-Err-take_line.ensures.some (ap brings_all (err-same c.in-Err-take_line.end _ e))

pub returns-clause-ended : goal.returns-clause-ended
returns-clause-ended g c = λ e. c.in-Err.ensures.ended (ap (λ (w : ReadEnd). the_err (Option Arrival) w) (err-same c.in-Err.end _ e))

pub returns-in-Ok-Some-clause-memory : goal.returns-in-Ok-Some-clause-memory
returns-in-Ok-Some-clause-memory g c = λ e. inr (
    let new = seen_of c.take_line.new.pass.seat in
    subst (λ (h : List ℕ). IsOpen (world_at g.B.Opening.origin new) h) c.flush_to_wait.ensures.same.host
    (c.in-Err-take_line.ensures.memory (ap (λ (x : ReadEnd). the_err (Unit {0}) x) (err-same c.in-Err-take_line.end _ e))))

pub returns-clause-memory : goal.returns-clause-memory
returns-clause-memory g c = λ e. inl (c.in-Err.ensures.memory (ap (λ (w : ReadEnd). the_err (Option Arrival) w) (err-same c.in-Err.end _ e)))
