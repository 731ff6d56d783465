use Rattle.std.proofs.Common.{◌+◌, Bool, Ok, refl, sym, ap, ◌∙◌, subst, arith, ℕ, List, inl, inr}
use Rattle.ps_twin.specs.Seats.{number_of, seen_of}
use Rattle.ps_wire.specs.Reading.{given_of, rest_of, source_of}
use Rattle.ps_wire.proofs.Gaining.{gave_none}
use Rattle.ps_hall_state.specs.Arrive.{IsOpen}
use Rattle.ps_hall_flush.specs.Homes.{world_at}
use Rattle.ps_streams.specs.declared.read.ReadEnd.{ReadEnd}
use Rattle.ps_streams.specs.Reading.{NextRead}
use Rattle.ps_streams.proofs.Fronts.{closed-later}
use Rattle.ps_streams.proofs.Lines.{gave-on}
use Rattle.ps_streams.proofs.Looping.{the_err}
use Rattle.ps_streams.proofs.Readings.{reads-ended, reads-more, so-begun, so-more}
use Rattle.ps_streams.proofs.read.read_lines.Goals as goal

pub loop-init : goal.loop-init
loop-init g c = (
  c.requires.reader,
  record { at = refl; host = refl },
  so-begun g.B.Opening.origin (number_of c.args.pass.now.seat) (seen_of c.args.pass.now.seat) (rest_of c.args.lines.now) (g.C.Clock.told c.args.clock.now) c.requires.reader.pass.owned,
  c.requires.going,
  omega arith,
  gave_none (g.S.Source.left (source_of c.args.lines.now)) (given_of c.args.lines.now),
)

pub loop-preserved : goal.loop-preserved
loop-preserved g c =
    let o = g.B.Opening.origin in
    let i = c.loop.invariant in
    let k = number_of c.args.pass.now.seat in
    let j = number_of c.loop.pass.seat in
    let old = seen_of c.args.pass.now.seat in
    let mid = seen_of c.loop.pass.seat in
    let new = seen_of c.read_next.new.pass.seat in
    let all = rest_of c.args.lines.now in
    let rest = rest_of c.loop.lines in
    let left = rest_of c.read_next.new.lines in
    let source = g.S.Source.left (source_of c.read_next.new.lines) in
    let t = g.C.Clock.told c.args.clock.now in
    let u = g.C.Clock.told c.loop.clock in
    let v = g.C.Clock.told c.read_next.new.clock in
    let same = i.0.number ∙ (ap (λ n. n + n) i.1.at ∙ sym c.requires.reader.number) in
    let read = subst (λ (b : Bool). NextRead o j mid new rest source left u v (Ok b)) c.in-Ok-true.field-0-test c.in-Ok-true.ensures.read in (
      c.read_next.ensures.reader,
      record { at = c.read_next.ensures.same.at ∙ c.loop.invariant.1.at; host = c.read_next.ensures.same.host ∙ c.loop.invariant.1.host },
      so-more o k j old mid new all
          rest left t u v same i.2 read,
      c.in-Ok-true.ensures.going,
      (let x = i.4 in let y = c.read_next.ensures.later in omega (arith, x, y)),
      gave-on (g.S.Source.left (source_of c.args.lines.now))
          (g.S.Source.left (source_of c.loop.lines)) source (given_of c.args.lines.now) (given_of c.loop.lines) (given_of c.read_next.new.lines) i.5 c.read_next.ensures.gave,
    )

pub returns-in-Ok-false-clause-same : goal.returns-in-Ok-false-clause-same
returns-in-Ok-false-clause-same g c = record { at = c.read_next.ensures.same.at ∙ c.loop.invariant.1.at; host = c.read_next.ensures.same.host ∙ c.loop.invariant.1.host }

pub returns-in-Ok-false-clause-reads : goal.returns-in-Ok-false-clause-reads
returns-in-Ok-false-clause-reads g c =
    let o = g.B.Opening.origin in
    let i = c.loop.invariant in
    let k = number_of c.args.pass.now.seat in
    let j = number_of c.loop.pass.seat in
    let old = seen_of c.args.pass.now.seat in
    let mid = seen_of c.loop.pass.seat in
    let new = seen_of c.read_next.new.pass.seat in
    let all = rest_of c.args.lines.now in
    let rest = rest_of c.loop.lines in
    let left = rest_of c.read_next.new.lines in
    let source = g.S.Source.left (source_of c.read_next.new.lines) in
    let t = g.C.Clock.told c.args.clock.now in
    let u = g.C.Clock.told c.loop.clock in
    let v = g.C.Clock.told c.read_next.new.clock in
    let same = i.0.number ∙ (ap (λ n. n + n) i.1.at ∙ sym c.requires.reader.number) in
    let read = subst (λ (b : Bool). NextRead o j mid new rest source left u v (Ok b)) c.in-Ok-false.field-0-test c.in-Ok-false.ensures.read in
    reads-ended o k j old mid new all rest left source t u v same i.2 read.0 read.1

pub returns-in-Err-clause-same : goal.returns-in-Err-clause-same
returns-in-Err-clause-same g c = record { at = c.read_next.ensures.same.at ∙ c.loop.invariant.1.at; host = c.read_next.ensures.same.host ∙ c.loop.invariant.1.host }

pub returns-in-Err-clause-reads : goal.returns-in-Err-clause-reads
returns-in-Err-clause-reads g c =
    let o = g.B.Opening.origin in
    let i = c.loop.invariant in
    let k = number_of c.args.pass.now.seat in
    let j = number_of c.loop.pass.seat in
    let old = seen_of c.args.pass.now.seat in
    let mid = seen_of c.loop.pass.seat in
    let new = seen_of c.read_next.new.pass.seat in
    let all = rest_of c.args.lines.now in
    let rest = rest_of c.loop.lines in
    let left = rest_of c.read_next.new.lines in
    let source = g.S.Source.left (source_of c.read_next.new.lines) in
    let t = g.C.Clock.told c.args.clock.now in
    let u = g.C.Clock.told c.loop.clock in
    let v = g.C.Clock.told c.read_next.new.clock in
    let same = i.0.number ∙ (ap (λ n. n + n) i.1.at ∙ sym c.requires.reader.number) in
    reads-more o k j old mid new all rest source t u v c.in-Err.end same i.2 c.in-Err.ensures.read

pub returns-in-Err-clause-closed : goal.returns-in-Err-clause-closed
returns-in-Err-clause-closed g c = λ e none. (
    let i = c.loop.invariant in
    let k = number_of c.args.pass.now.seat in
    let j = number_of c.loop.pass.seat in
    let same = i.0.number ∙ (ap (λ n. n + n) i.1.at ∙ sym c.requires.reader.number) in
    closed-later g.B.Opening.origin j k c.loop.pass.host c.args.pass.now.host (seen_of c.args.pass.now.seat) (seen_of c.loop.pass.seat) (seen_of c.read_next.new.pass.seat) i.2.arrived same i.1.host
    i.2.brought
    (c.in-Err.ensures.closed (ap (λ (w : ReadEnd). the_err Bool w) e)) none)

pub returns-in-Ok-false-clause-gave : goal.returns-in-Ok-false-clause-gave
returns-in-Ok-false-clause-gave g c =
    gave-on (g.S.Source.left (source_of c.args.lines.now)) (g.S.Source.left (source_of c.loop.lines)) (g.S.Source.left (source_of c.read_next.new.lines)) (given_of c.args.lines.now)
    (given_of c.loop.lines) (given_of c.read_next.new.lines) c.loop.invariant.5 c.read_next.ensures.gave

pub returns-in-Err-clause-gave : goal.returns-in-Err-clause-gave
returns-in-Err-clause-gave g c =
    gave-on (g.S.Source.left (source_of c.args.lines.now)) (g.S.Source.left (source_of c.loop.lines)) (g.S.Source.left (source_of c.read_next.new.lines)) (given_of c.args.lines.now)
    (given_of c.loop.lines) (given_of c.read_next.new.lines) c.loop.invariant.5 c.read_next.ensures.gave

pub returns-in-Err-clause-early : goal.returns-in-Err-clause-early
returns-in-Err-clause-early g c = λ e. absurd (c.in-Err.ensures.ended (ap (λ (w : ReadEnd). the_err Bool w) e))

pub returns-in-Err-clause-whole : goal.returns-in-Err-clause-whole
returns-in-Err-clause-whole g c = λ e. absurd (c.in-Err.ensures.ended (ap (λ (w : ReadEnd). the_err Bool w) e))

pub returns-in-Err-clause-memory : goal.returns-in-Err-clause-memory
returns-in-Err-clause-memory g c = λ e.
    let new = seen_of c.read_next.new.pass.seat in
    elim (c.in-Err.ensures.memory (ap (λ (w : ReadEnd). the_err Bool w) e)) [
      | inl stopped ↦ inl stopped
      | inr found ↦ inr (subst (λ (h : List ℕ). IsOpen (world_at g.B.Opening.origin new) h) c.loop.invariant.1.host found)
    ]
