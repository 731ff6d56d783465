use Rattle.std.proofs.Common.{ℕ, ◌+◌, List, [], Bool, Ok, Err, refl, sym, ap, ◌∙◌, subst}
use Rattle.std.specs.Result.{IsErrOf}
use Rattle.ps_twin.specs.Seats.{number_of, seen_of}
use Rattle.ps_hall_flush.specs.Homes.{world_at}
use Rattle.ps_hall.specs.declared.answers.EndCause.{EndCause}
use Rattle.ps_hall.specs.declared.answers.EndCause.TheVariants.{Finished, Full, Store, WriteFault}
use Rattle.ps_streams.specs.Speaking.{FindsLanded, FoundNoRoom, HasLanded}
use Rattle.ps_streams.specs.declared.write.Said.{Said}
use Rattle.ps_streams.proofs.Causes.{hand-landed}
use Rattle.ps_streams.proofs.Ending.{ends-after, ends-as, goes-as}
use Rattle.ps_streams.proofs.Looping.{err-same, speaks-cut, speaks-whole, the_err, whole-recorded}
use Rattle.ps_streams.proofs.Saying.{recorded-as}
use Rattle.ps_streams.proofs.write.write_next.Goals as goal

pub returns-in-Err-clause-spoke : goal.returns-in-Err-clause-spoke
returns-in-Err-clause-spoke g c =
    let o = g.B.Opening.origin in
    let k = number_of c.args.pass.now.seat in
    let j = number_of c.say_next.new.pass.seat in
    let h = c.args.pass.now.host in
    let hand = c.args.pass.now.in_hand.items in
    let held = c.say_next.new.pass.in_hand.items in
    let old = seen_of c.args.pass.now.seat in
    let mid = seen_of c.say_next.new.pass.seat in
    speaks-cut o k hand old mid (g.K.Sink.written c.args.sink.now) (g.K.Sink.written c.say_next.new.sink) _ _ (λ e. ap (λ (w : EndCause). the_err Bool w) (err-same c.in-Err.why WriteFault e))
    c.in-Err.ensures.spoke

pub returns-in-Err-clause-landed : goal.returns-in-Err-clause-landed
returns-in-Err-clause-landed g c = λ no.
    subst (λ (x : List ℕ). FindsLanded g.B.Opening.origin x c.say_next.new.pass.seat) c.say_next.ensures.same.host
    (hand-landed c.say_next.new.pass.in_hand.items c.say_next.new.pass.host (world_at g.B.Opening.origin (seen_of c.say_next.new.pass.seat)) c.say_next.ensures.ready.hand)

pub returns-in-Err-clause-cause : goal.returns-in-Err-clause-cause
returns-in-Err-clause-cause g c = λ e.
    c.in-Err.ensures.cause (ap (λ (w : EndCause). the_err Said w) (err-same c.in-Err.why WriteFault e))

pub returns-in-Err-clause-store : goal.returns-in-Err-clause-store
returns-in-Err-clause-store g c = λ e.
    absurd (c.in-Err.ensures.store (ap (λ (w : EndCause). the_err Said w) (err-same c.in-Err.why Store e)))

pub returns-in-Err-clause-full : goal.returns-in-Err-clause-full
returns-in-Err-clause-full g c = λ e.
    absurd (c.in-Err.ensures.full (ap (λ (w : EndCause). the_err Said w) (err-same c.in-Err.why Full e)))

pub returns-in-Err-clause-ended : goal.returns-in-Err-clause-ended
returns-in-Err-clause-ended g c = λ e.
    absurd (c.in-Err.ensures.full (ap (λ (w : EndCause). the_err Said w) (err-same c.in-Err.why Full e)))

pub returns-in-Err-clause-unfinished : goal.returns-in-Err-clause-unfinished
returns-in-Err-clause-unfinished g c = λ e.
    c.in-Err.ensures.unfinished (ap (λ (w : EndCause). the_err Said w) (err-same c.in-Err.why Finished e))

pub returns-in-Err-clause-going : goal.returns-in-Err-clause-going
returns-in-Err-clause-going g c = λ no.
    c.say_next.ensures.going

pub returns-then-is_all-clause-spoke : goal.returns-then-is_all-clause-spoke
returns-then-is_all-clause-spoke g c =
    let o = g.B.Opening.origin in
    let k = number_of c.args.pass.now.seat in
    let j = number_of c.say_next.new.pass.seat in
    let h = c.args.pass.now.host in
    let hand = c.args.pass.now.in_hand.items in
    let held = c.say_next.new.pass.in_hand.items in
    let old = seen_of c.args.pass.now.seat in
    let mid = seen_of c.say_next.new.pass.seat in
    speaks-whole o k hand held old mid (g.K.Sink.written c.args.sink.now) (g.K.Sink.written c.say_next.new.sink) _ c.in-Ok.ensures.whole

pub returns-then-is_all-clause-going : goal.returns-then-is_all-clause-going
returns-then-is_all-clause-going g c = λ no.
    c.say_next.ensures.going

pub returns-then-is_all-clause-landed : goal.returns-then-is_all-clause-landed
returns-then-is_all-clause-landed g c = λ no.
    subst (λ (x : List ℕ). FindsLanded g.B.Opening.origin x c.say_next.new.pass.seat) c.say_next.ensures.same.host
    (hand-landed c.say_next.new.pass.in_hand.items c.say_next.new.pass.host (world_at g.B.Opening.origin (seen_of c.say_next.new.pass.seat)) c.say_next.ensures.ready.hand)

pub returns-then-goes_on-clause-spoke : goal.returns-then-goes_on-clause-spoke
returns-then-goes_on-clause-spoke g c =
    let o = g.B.Opening.origin in
    let k = number_of c.args.pass.now.seat in
    let j = number_of c.say_next.new.pass.seat in
    let h = c.args.pass.now.host in
    let hand = c.args.pass.now.in_hand.items in
    let held = c.say_next.new.pass.in_hand.items in
    let old = seen_of c.args.pass.now.seat in
    let mid = seen_of c.say_next.new.pass.seat in
    speaks-whole o k hand held old mid (g.K.Sink.written c.args.sink.now) (g.K.Sink.written c.say_next.new.sink) _ c.in-Ok.ensures.whole

pub returns-then-goes_on-clause-going : goal.returns-then-goes_on-clause-going
returns-then-goes_on-clause-going g c = λ no.
    c.say_next.ensures.going

pub returns-then-goes_on-clause-landed : goal.returns-then-goes_on-clause-landed
returns-then-goes_on-clause-landed g c = λ no.
    subst (λ (x : List ℕ). FindsLanded g.B.Opening.origin x c.say_next.new.pass.seat) c.say_next.ensures.same.host
    (hand-landed c.say_next.new.pass.in_hand.items c.say_next.new.pass.host (world_at g.B.Opening.origin (seen_of c.say_next.new.pass.seat)) c.say_next.ensures.ready.hand)

pub returns-then-is_all-clause-over : goal.returns-then-is_all-clause-over
returns-then-is_all-clause-over g c = λ no.
    c.in-Ok.ensures.over (c.is_all.ensures c.if-is_all.true)

pub returns-in-Err-record_all-clause-spoke : goal.returns-in-Err-record_all-clause-spoke
returns-in-Err-record_all-clause-spoke g c =
    let o = g.B.Opening.origin in
    let k = number_of c.args.pass.now.seat in
    let j = number_of c.say_next.new.pass.seat in
    let h = c.args.pass.now.host in
    let hand = c.args.pass.now.in_hand.items in
    let held = c.say_next.new.pass.in_hand.items in
    let old = seen_of c.args.pass.now.seat in
    let mid = seen_of c.say_next.new.pass.seat in
    let same = c.say_next.ensures.ready.writer.number ∙ (ap (λ n. n + n + 1) c.say_next.ensures.same.at ∙ sym c.requires.ready.writer.number) in
    let rest = c.record_all.new.pass.in_hand.items in
    let new = seen_of c.record_all.new.pass.seat in
    speaks-whole o k hand [] old new (g.K.Sink.written c.args.sink.now) (g.K.Sink.written c.say_next.new.sink) _
    (whole-recorded o k hand held [] old mid new (g.K.Sink.written c.args.sink.now) (g.K.Sink.written c.say_next.new.sink) c.in-Ok.ensures.whole
    (recorded-as o j k held [] mid new same c.in-Err-record_all.ensures.refused))

pub returns-in-Err-record_all-clause-cause : goal.returns-in-Err-record_all-clause-cause
returns-in-Err-record_all-clause-cause g c = λ e.
    absurd (c.in-Err-record_all.ensures.written (ap (λ (w : EndCause). the_err (Unit {0}) w) (err-same c.in-Err-record_all.why WriteFault e)))

pub returns-in-Err-record_all-clause-unfinished : goal.returns-in-Err-record_all-clause-unfinished
returns-in-Err-record_all-clause-unfinished g c = λ e.
    c.in-Err-record_all.ensures.unfinished (ap (λ (w : EndCause). the_err (Unit {0}) w) (err-same c.in-Err-record_all.why Finished e))

pub returns-in-Err-record_all-clause-store : goal.returns-in-Err-record_all-clause-store
returns-in-Err-record_all-clause-store g c = λ e.
    c.in-Err-record_all.ensures.store (ap (λ (w : EndCause). the_err (Unit {0}) w) (err-same c.in-Err-record_all.why Store e))

pub returns-in-Err-record_all-clause-full : goal.returns-in-Err-record_all-clause-full
returns-in-Err-record_all-clause-full g c = λ e.
    subst (λ (x : List ℕ). FoundNoRoom g.B.Opening.origin x c.record_all.new.pass.seat) c.say_next.ensures.same.host
    (c.in-Err-record_all.ensures.full (ap (λ (w : EndCause). the_err (Unit {0}) w) (err-same c.in-Err-record_all.why Full e)))

pub returns-in-Err-record_all-clause-going : goal.returns-in-Err-record_all-clause-going
returns-in-Err-record_all-clause-going g c = λ no none. (
    let o = g.B.Opening.origin in
    let k = number_of c.args.pass.now.seat in
    let j = number_of c.say_next.new.pass.seat in
    let h = c.args.pass.now.host in
    let hand = c.args.pass.now.in_hand.items in
    let held = c.say_next.new.pass.in_hand.items in
    let old = seen_of c.args.pass.now.seat in
    let mid = seen_of c.say_next.new.pass.seat in
    let same = c.say_next.ensures.ready.writer.number ∙ (ap (λ n. n + n + 1) c.say_next.ensures.same.at ∙ sym c.requires.ready.writer.number) in
    let rest = c.record_all.new.pass.in_hand.items in
    let new = seen_of c.record_all.new.pass.seat in
    goes-as j k mid new same (c.in-Err-record_all.ensures.going (λ e. no (ap (λ (w : EndCause). the_err Bool w) (err-same c.in-Err-record_all.why Full e)))) (c.say_next.ensures.going none))

pub returns-in-Err-record_all-clause-ended : goal.returns-in-Err-record_all-clause-ended
returns-in-Err-record_all-clause-ended g c = λ e. (
    let o = g.B.Opening.origin in
    let k = number_of c.args.pass.now.seat in
    let j = number_of c.say_next.new.pass.seat in
    let h = c.args.pass.now.host in
    let hand = c.args.pass.now.in_hand.items in
    let held = c.say_next.new.pass.in_hand.items in
    let old = seen_of c.args.pass.now.seat in
    let mid = seen_of c.say_next.new.pass.seat in
    let same = c.say_next.ensures.ready.writer.number ∙ (ap (λ n. n + n + 1) c.say_next.ensures.same.at ∙ sym c.requires.ready.writer.number) in
    let rest = c.record_all.new.pass.in_hand.items in
    let new = seen_of c.record_all.new.pass.seat in
    ends-after h k old mid new c.say_next.ensures.going (ends-as j k c.say_next.new.pass.host h mid new same c.say_next.ensures.same.host
    (c.in-Err-record_all.ensures.ended (ap (λ (w : EndCause). the_err (Unit {0}) w) (err-same c.in-Err-record_all.why Full e)))))

pub returns-in-Err-record_all-clause-landed : goal.returns-in-Err-record_all-clause-landed
returns-in-Err-record_all-clause-landed g c = λ no.
    subst (λ (x : List ℕ). FindsLanded g.B.Opening.origin x c.record_all.new.pass.seat) c.say_next.ensures.same.host
    (c.in-Err-record_all.ensures.landed (λ e. no (ap (λ (w : EndCause). the_err Bool w) (err-same c.in-Err-record_all.why Store e))))

pub returns-in-Ok-record_all-clause-whole : goal.returns-in-Ok-record_all-clause-whole
returns-in-Ok-record_all-clause-whole g c =
    let o = g.B.Opening.origin in
    let k = number_of c.args.pass.now.seat in
    let j = number_of c.say_next.new.pass.seat in
    let h = c.args.pass.now.host in
    let hand = c.args.pass.now.in_hand.items in
    let held = c.say_next.new.pass.in_hand.items in
    let old = seen_of c.args.pass.now.seat in
    let mid = seen_of c.say_next.new.pass.seat in
    let same = c.say_next.ensures.ready.writer.number ∙ (ap (λ n. n + n + 1) c.say_next.ensures.same.at ∙ sym c.requires.ready.writer.number) in
    let rest = c.record_all.new.pass.in_hand.items in
    let new = seen_of c.record_all.new.pass.seat in
    whole-recorded o k hand held rest old mid new (g.K.Sink.written c.args.sink.now) (g.K.Sink.written c.say_next.new.sink) c.in-Ok.ensures.whole
    (recorded-as o j k held rest mid new same c.in-Ok-record_all.ensures.quiet)

pub returns-in-Ok-record_all-clause-spoke : goal.returns-in-Ok-record_all-clause-spoke
returns-in-Ok-record_all-clause-spoke g c =
    let o = g.B.Opening.origin in
    let k = number_of c.args.pass.now.seat in
    let j = number_of c.say_next.new.pass.seat in
    let h = c.args.pass.now.host in
    let hand = c.args.pass.now.in_hand.items in
    let held = c.say_next.new.pass.in_hand.items in
    let old = seen_of c.args.pass.now.seat in
    let mid = seen_of c.say_next.new.pass.seat in
    let rest = c.record_all.new.pass.in_hand.items in
    let new = seen_of c.record_all.new.pass.seat in
    speaks-whole o k hand rest old new (g.K.Sink.written c.args.sink.now) (g.K.Sink.written c.say_next.new.sink) _ (returns-in-Ok-record_all-clause-whole g c)

pub returns-in-Ok-record_all-clause-going : goal.returns-in-Ok-record_all-clause-going
returns-in-Ok-record_all-clause-going g c = λ no none. (
    let o = g.B.Opening.origin in
    let k = number_of c.args.pass.now.seat in
    let j = number_of c.say_next.new.pass.seat in
    let h = c.args.pass.now.host in
    let hand = c.args.pass.now.in_hand.items in
    let held = c.say_next.new.pass.in_hand.items in
    let old = seen_of c.args.pass.now.seat in
    let mid = seen_of c.say_next.new.pass.seat in
    let same = c.say_next.ensures.ready.writer.number ∙ (ap (λ n. n + n + 1) c.say_next.ensures.same.at ∙ sym c.requires.ready.writer.number) in
    let rest = c.record_all.new.pass.in_hand.items in
    let new = seen_of c.record_all.new.pass.seat in
    goes-as j k mid new same (c.in-Ok-record_all.ensures.going (λ e. absurd (cc e))) (c.say_next.ensures.going none))

pub returns-in-Ok-record_all-clause-landed : goal.returns-in-Ok-record_all-clause-landed
returns-in-Ok-record_all-clause-landed g c = λ no.
    subst (λ (x : List ℕ). FindsLanded g.B.Opening.origin x c.record_all.new.pass.seat) c.say_next.ensures.same.host (c.in-Ok-record_all.ensures.landed (λ e. absurd (cc e)))
