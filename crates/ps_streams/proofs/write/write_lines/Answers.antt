use Rattle.std.proofs.Common.{ℕ, ◌+◌, List, [], Bool, Ok, Err, refl, sym, ap, ◌∙◌, subst, arith}
use Rattle.std.specs.Result.{IsErrOf}
use Rattle.ps_types.specs.declared.jid.Jid.{Jid}
use Rattle.ps_twin.specs.Seats.{number_of, seen_of}
use Rattle.ps_hall.specs.declared.answers.EndCause.{EndCause}
use Rattle.ps_hall.specs.declared.answers.EndCause.TheVariants.{WriteFault}
use Rattle.ps_streams.specs.Speaking.{FindsLanded, FindsOver, FoundNoRoom, SeatSpokeWhole}
use Rattle.ps_streams.proofs.Ending.{ends-after, ends-as, goes-as}
use Rattle.ps_streams.proofs.Looping.{begun-whole, err-same, speaks-on, the_err, whole-on}
use Rattle.ps_streams.proofs.write.write_lines.Goals as goal

pub loop-init : goal.loop-init
loop-init g c = (
  record { writer = c.requires.ready.writer; hand = c.requires.ready.hand },
  record { at = refl; host = refl },
  subst (λ (h : List Jid). SeatSpokeWhole g.B.Opening.origin [] h c.args.pass.now.seat c.args.pass.now.seat (g.K.Sink.written c.args.sink.now) (g.K.Sink.written c.args.sink.now))
      (sym c.requires.ready.free)
      (begun-whole g.B.Opening.origin (number_of c.args.pass.now.seat) [] (seen_of c.args.pass.now.seat) (g.K.Sink.written c.args.sink.now) c.requires.ready.writer.pass.owned),
  omega arith,
  λ none. none,
)

pub write_next-requires-clause-ready : goal.write_next-requires-clause-ready
write_next-requires-clause-ready g c κs within = c.loop.invariant.0

pub loop-preserved : goal.loop-preserved
loop-preserved g c =
    let o = g.B.Opening.origin in
    let i = c.loop.invariant in
    let k = number_of c.args.pass.now.seat in
    let j = number_of c.loop.pass.seat in
    let old = seen_of c.args.pass.now.seat in
    let mid = seen_of c.loop.pass.seat in
    let new = seen_of c.write_next.new.pass.seat in
    let first = g.K.Sink.written c.args.sink.now in
    let second = g.K.Sink.written c.loop.sink in
    let third = g.K.Sink.written c.write_next.new.sink in
    let same = i.0.writer.number ∙ (ap (λ n. n + n + 1) i.1.at ∙ sym c.requires.ready.writer.number) in
    let later = c.write_next.ensures.later in
    let before = i.3 in (
      c.in-Ok-true.ensures.ready,
      record { at = c.write_next.ensures.same.at ∙ c.loop.invariant.1.at; host = c.write_next.ensures.same.host ∙ c.loop.invariant.1.host },
      whole-on o k j c.loop.pass.in_hand.items c.write_next.new.pass.in_hand.items old mid new first second third same i.2 c.in-Ok-true.ensures.whole,
      omega (arith, before, later),
      λ none. goes-as j k mid new same (c.in-Ok-true.ensures.going (λ e. absurd (cc e))) (i.4 none),
    )

pub returns-in-Ok-false-clause-same : goal.returns-in-Ok-false-clause-same
returns-in-Ok-false-clause-same g c = record { at = c.write_next.ensures.same.at ∙ c.loop.invariant.1.at; host = c.write_next.ensures.same.host ∙ c.loop.invariant.1.host }

pub returns-in-Ok-false-clause-spoke : goal.returns-in-Ok-false-clause-spoke
returns-in-Ok-false-clause-spoke g c =
    let o = g.B.Opening.origin in
    let i = c.loop.invariant in
    let k = number_of c.args.pass.now.seat in
    let j = number_of c.loop.pass.seat in
    let old = seen_of c.args.pass.now.seat in
    let mid = seen_of c.loop.pass.seat in
    let new = seen_of c.write_next.new.pass.seat in
    let first = g.K.Sink.written c.args.sink.now in
    let second = g.K.Sink.written c.loop.sink in
    let third = g.K.Sink.written c.write_next.new.sink in
    let same = i.0.writer.number ∙ (ap (λ n. n + n + 1) i.1.at ∙ sym c.requires.ready.writer.number) in
    speaks-on o k j c.loop.pass.in_hand.items old mid new first second third (IsErrOf {T = Bool} {E = EndCause} (Ok c.in-Ok-false.field-0) WriteFault) _ same (λ no. absurd (cc no)) i.2
    c.in-Ok-false.ensures.spoke

pub returns-in-Ok-false-clause-over : goal.returns-in-Ok-false-clause-over
returns-in-Ok-false-clause-over g c = λ e. subst (λ (h : List ℕ). FindsOver g.B.Opening.origin h c.write_next.new.pass.seat) c.loop.invariant.1.host
    (c.in-Ok-false.ensures.over c.in-Ok-false.field-0-test)

pub returns-in-Ok-false-clause-going : goal.returns-in-Ok-false-clause-going
returns-in-Ok-false-clause-going g c = λ no none. (
    let i = c.loop.invariant in
    let k = number_of c.args.pass.now.seat in
    let j = number_of c.loop.pass.seat in
    let mid = seen_of c.loop.pass.seat in
    let new = seen_of c.write_next.new.pass.seat in
    let same = i.0.writer.number ∙ (ap (λ n. n + n + 1) i.1.at ∙ sym c.requires.ready.writer.number) in
    goes-as j k mid new same (c.in-Ok-false.ensures.going (λ e. absurd (cc e))) (i.4 none))

pub returns-in-Ok-false-clause-later : goal.returns-in-Ok-false-clause-later
returns-in-Ok-false-clause-later g c = let before = c.loop.invariant.3 in let later = c.write_next.ensures.later in omega (arith, before, later)

pub returns-in-Err-clause-same : goal.returns-in-Err-clause-same
returns-in-Err-clause-same g c = record { at = c.write_next.ensures.same.at ∙ c.loop.invariant.1.at; host = c.write_next.ensures.same.host ∙ c.loop.invariant.1.host }

pub returns-in-Err-clause-spoke : goal.returns-in-Err-clause-spoke
returns-in-Err-clause-spoke g c =
    let o = g.B.Opening.origin in
    let i = c.loop.invariant in
    let k = number_of c.args.pass.now.seat in
    let j = number_of c.loop.pass.seat in
    let old = seen_of c.args.pass.now.seat in
    let mid = seen_of c.loop.pass.seat in
    let new = seen_of c.write_next.new.pass.seat in
    let first = g.K.Sink.written c.args.sink.now in
    let second = g.K.Sink.written c.loop.sink in
    let third = g.K.Sink.written c.write_next.new.sink in
    let same = i.0.writer.number ∙ (ap (λ n. n + n + 1) i.1.at ∙ sym c.requires.ready.writer.number) in
    speaks-on o k j c.loop.pass.in_hand.items old mid new first second third (IsErrOf {T = Bool} {E = EndCause} (Err c.in-Err.why) WriteFault) _ same (λ e. err-same c.in-Err.why WriteFault e) i.2
    c.in-Err.ensures.spoke

pub returns-in-Err-clause-going : goal.returns-in-Err-clause-going
returns-in-Err-clause-going g c = λ no none. (
    let i = c.loop.invariant in
    let k = number_of c.args.pass.now.seat in
    let j = number_of c.loop.pass.seat in
    let mid = seen_of c.loop.pass.seat in
    let new = seen_of c.write_next.new.pass.seat in
    let same = i.0.writer.number ∙ (ap (λ n. n + n + 1) i.1.at ∙ sym c.requires.ready.writer.number) in
    goes-as j k mid new same (c.in-Err.ensures.going (λ e. no (err-same c.in-Err.why _ e))) (i.4 none))

pub returns-in-Err-clause-ended : goal.returns-in-Err-clause-ended
returns-in-Err-clause-ended g c = λ e. (
    let i = c.loop.invariant in
    let k = number_of c.args.pass.now.seat in
    let j = number_of c.loop.pass.seat in
    let h = c.args.pass.now.host in
    let mid = seen_of c.loop.pass.seat in
    let new = seen_of c.write_next.new.pass.seat in
    let same = i.0.writer.number ∙ (ap (λ n. n + n + 1) i.1.at ∙ sym c.requires.ready.writer.number) in
    ends-after h k (seen_of c.args.pass.now.seat) mid new i.4 (ends-as j k c.loop.pass.host h mid new same i.1.host (c.in-Err.ensures.ended (ap (λ (w : EndCause). the_err Bool w) e))))

pub returns-in-Err-clause-later : goal.returns-in-Err-clause-later
returns-in-Err-clause-later g c = let before = c.loop.invariant.3 in let later = c.write_next.ensures.later in omega (arith, before, later)

pub returns-in-Err-clause-cause : goal.returns-in-Err-clause-cause
returns-in-Err-clause-cause g c = λ e. (let before = c.loop.invariant.3 in let cause = c.in-Err.ensures.cause (ap (λ (w : EndCause). the_err Bool w) e) in omega (arith, before, cause))

pub returns-in-Err-clause-full : goal.returns-in-Err-clause-full
returns-in-Err-clause-full g c = λ e. subst (λ (h : List ℕ). FoundNoRoom g.B.Opening.origin h c.write_next.new.pass.seat) c.loop.invariant.1.host
    (c.in-Err.ensures.full (ap (λ (w : EndCause). the_err Bool w) e))

pub returns-in-Ok-false-clause-landed : goal.returns-in-Ok-false-clause-landed
returns-in-Ok-false-clause-landed g c = λ no. subst (λ (h : List ℕ). FindsLanded g.B.Opening.origin h c.write_next.new.pass.seat) c.loop.invariant.1.host
    (c.in-Ok-false.ensures.landed (λ e. absurd (cc e)))

pub returns-in-Err-clause-landed : goal.returns-in-Err-clause-landed
returns-in-Err-clause-landed g c = λ no. subst (λ (h : List ℕ). FindsLanded g.B.Opening.origin h c.write_next.new.pass.seat) c.loop.invariant.1.host
    (c.in-Err.ensures.landed (λ e. no (err-same c.in-Err.why _ e)))
