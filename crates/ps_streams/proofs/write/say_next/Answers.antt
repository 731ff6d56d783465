use Rattle.std.proofs.Common.{ℕ, ◌+◌, List, [], Bool, Ok, Err, refl, sym, ap, ◌∙◌, subst}
use Rattle.std.specs.Result.{IsErrOf}
use Rattle.ps_base.specs.declared.Memory.{Memory}
use Rattle.ps_types.specs.declared.jid.Jid.{Jid}
use Rattle.ps_twin.specs.Seats.{number_of, seen_of}
use Rattle.ps_hall_flush.specs.Homes.{world_at}
use Rattle.ps_hall.specs.Calls.{HandAt}
use Rattle.ps_hall.specs.declared.answers.Next.TheVariants.{NotYet, Notice, Over, Reply}
use Rattle.ps_streams.specs.declared.write.Said.{Said}
use Rattle.ps_streams.specs.declared.write.Said.TheVariants as said
use Rattle.ps_streams.proofs.Ending.{goes-next}
use Rattle.ps_streams.proofs.Looping.{err-same, the_err, speaks-whole}
use Rattle.ps_streams.proofs.Saying.{next-as, note-part, note-whole, over-found, quiet-whole, reply-part, reply-whole}
use Rattle.ps_streams.proofs.write.say_next.Goals as goal

pub returns-in-Ok-clause-whole : goal.returns-in-Ok-clause-whole
returns-in-Ok-clause-whole g c =
    let o = g.B.Opening.origin in
    let k = number_of c.args.pass.now.seat in
    let h = c.args.pass.now.host in
    let hand = c.args.pass.now.in_hand.items in
    let after = c.next.new.pass.in_hand.items in
    let old = seen_of c.args.pass.now.seat in
    let new = seen_of c.next.new.pass.seat in
    reply-whole o k h Memory hand after old new c.in-Ok-Reply.line
    (next-as o k h Memory hand after old new c.in-Ok-Reply.field-0 (Reply c.in-Ok-Reply.line) c.in-Ok-Reply.field-0-is c.in-Ok-Reply.ensures.does) (g.K.Sink.written c.args.sink.now)
    (g.K.Sink.written c.put_line.new.sink) c.in-Ok.ensures.whole

pub returns-in-Ok-put_line-clause-whole : goal.returns-in-Ok-put_line-clause-whole
returns-in-Ok-put_line-clause-whole g c =
    let o = g.B.Opening.origin in
    let k = number_of c.args.pass.now.seat in
    let h = c.args.pass.now.host in
    let hand = c.args.pass.now.in_hand.items in
    let after = c.next.new.pass.in_hand.items in
    let old = seen_of c.args.pass.now.seat in
    let new = seen_of c.next.new.pass.seat in
    note-whole o k h Memory hand after old new c.in-Ok-Notice.line
    (next-as o k h Memory hand after old new c.in-Ok-Notice.field-0 (Notice c.in-Ok-Notice.line) c.in-Ok-Notice.field-0-is c.in-Ok-Notice.ensures.does) (g.K.Sink.written c.args.sink.now)
    (g.K.Sink.written c.put_line-in-Ok-Notice.new.sink) c.in-Ok-put_line.ensures.whole

pub returns-in-Ok-NotYet-clause-whole : goal.returns-in-Ok-NotYet-clause-whole
returns-in-Ok-NotYet-clause-whole g c =
    let o = g.B.Opening.origin in
    let k = number_of c.args.pass.now.seat in
    let h = c.args.pass.now.host in
    let hand = c.args.pass.now.in_hand.items in
    let after = c.next.new.pass.in_hand.items in
    let old = seen_of c.args.pass.now.seat in
    let new = seen_of c.next.new.pass.seat in
    let did = (next-as o k h Memory hand after old new c.in-Ok-NotYet.field-0 NotYet c.in-Ok-NotYet.field-0-is c.in-Ok-NotYet.ensures.does) in
    quiet-whole o k h Memory hand after old new (Ok NotYet) did did.does.4 did.does.3 (g.K.Sink.written c.args.sink.now)

pub returns-in-Ok-Over-clause-whole : goal.returns-in-Ok-Over-clause-whole
returns-in-Ok-Over-clause-whole g c =
    let o = g.B.Opening.origin in
    let k = number_of c.args.pass.now.seat in
    let h = c.args.pass.now.host in
    let hand = c.args.pass.now.in_hand.items in
    let after = c.next.new.pass.in_hand.items in
    let old = seen_of c.args.pass.now.seat in
    let new = seen_of c.next.new.pass.seat in
    let did = (next-as o k h Memory hand after old new c.in-Ok-Over.field-0 Over c.in-Ok-Over.field-0-is c.in-Ok-Over.ensures.does) in
    quiet-whole o k h Memory hand after old new (Ok Over) did did.does.5 did.does.4 (g.K.Sink.written c.args.sink.now)

pub returns-in-Ok-clause-spoke : goal.returns-in-Ok-clause-spoke
returns-in-Ok-clause-spoke g c =
    let o = g.B.Opening.origin in
    let k = number_of c.args.pass.now.seat in
    let h = c.args.pass.now.host in
    let hand = c.args.pass.now.in_hand.items in
    let after = c.next.new.pass.in_hand.items in
    let old = seen_of c.args.pass.now.seat in
    let new = seen_of c.next.new.pass.seat in
    speaks-whole o k hand after old new (g.K.Sink.written c.args.sink.now) (g.K.Sink.written c.put_line.new.sink) _ (returns-in-Ok-clause-whole g c)

pub returns-in-Ok-put_line-clause-spoke : goal.returns-in-Ok-put_line-clause-spoke
returns-in-Ok-put_line-clause-spoke g c =
    let o = g.B.Opening.origin in
    let k = number_of c.args.pass.now.seat in
    let h = c.args.pass.now.host in
    let hand = c.args.pass.now.in_hand.items in
    let after = c.next.new.pass.in_hand.items in
    let old = seen_of c.args.pass.now.seat in
    let new = seen_of c.next.new.pass.seat in
    speaks-whole o k hand after old new (g.K.Sink.written c.args.sink.now) (g.K.Sink.written c.put_line-in-Ok-Notice.new.sink) _ (returns-in-Ok-put_line-clause-whole g c)

pub returns-in-Ok-NotYet-clause-spoke : goal.returns-in-Ok-NotYet-clause-spoke
returns-in-Ok-NotYet-clause-spoke g c =
    let o = g.B.Opening.origin in
    let k = number_of c.args.pass.now.seat in
    let h = c.args.pass.now.host in
    let hand = c.args.pass.now.in_hand.items in
    let after = c.next.new.pass.in_hand.items in
    let old = seen_of c.args.pass.now.seat in
    let new = seen_of c.next.new.pass.seat in
    speaks-whole o k hand after old new (g.K.Sink.written c.args.sink.now) (g.K.Sink.written c.args.sink.now) _ (returns-in-Ok-NotYet-clause-whole g c)

pub returns-in-Ok-Over-clause-spoke : goal.returns-in-Ok-Over-clause-spoke
returns-in-Ok-Over-clause-spoke g c =
    let o = g.B.Opening.origin in
    let k = number_of c.args.pass.now.seat in
    let h = c.args.pass.now.host in
    let hand = c.args.pass.now.in_hand.items in
    let after = c.next.new.pass.in_hand.items in
    let old = seen_of c.args.pass.now.seat in
    let new = seen_of c.next.new.pass.seat in
    speaks-whole o k hand after old new (g.K.Sink.written c.args.sink.now) (g.K.Sink.written c.args.sink.now) _ (returns-in-Ok-Over-clause-whole g c)

pub returns-in-Err-put_line-clause-spoke : goal.returns-in-Err-put_line-clause-spoke
returns-in-Err-put_line-clause-spoke g c =
    let o = g.B.Opening.origin in
    let k = number_of c.args.pass.now.seat in
    let h = c.args.pass.now.host in
    let hand = c.args.pass.now.in_hand.items in
    let after = c.next.new.pass.in_hand.items in
    let old = seen_of c.args.pass.now.seat in
    let new = seen_of c.next.new.pass.seat in
    reply-part o k h Memory hand after old new c.in-Ok-Reply.line
    (next-as o k h Memory hand after old new c.in-Ok-Reply.field-0 (Reply c.in-Ok-Reply.line) c.in-Ok-Reply.field-0-is c.in-Ok-Reply.ensures.does) refl (g.K.Sink.written c.args.sink.now)
    (g.K.Sink.written c.put_line.new.sink) c.put_line.ensures.part

pub returns-in-Err-put_line-2-clause-spoke : goal.returns-in-Err-put_line-2-clause-spoke
returns-in-Err-put_line-2-clause-spoke g c =
    let o = g.B.Opening.origin in
    let k = number_of c.args.pass.now.seat in
    let h = c.args.pass.now.host in
    let hand = c.args.pass.now.in_hand.items in
    let after = c.next.new.pass.in_hand.items in
    let old = seen_of c.args.pass.now.seat in
    let new = seen_of c.next.new.pass.seat in
    note-part o k h Memory hand after old new c.in-Ok-Notice.line
    (next-as o k h Memory hand after old new c.in-Ok-Notice.field-0 (Notice c.in-Ok-Notice.line) c.in-Ok-Notice.field-0-is c.in-Ok-Notice.ensures.does) refl (g.K.Sink.written c.args.sink.now)
    (g.K.Sink.written c.put_line-in-Ok-Notice.new.sink) c.put_line-in-Ok-Notice.ensures.part

pub returns-in-Err-clause-spoke : goal.returns-in-Err-clause-spoke
returns-in-Err-clause-spoke g c =
    let o = g.B.Opening.origin in
    let k = number_of c.args.pass.now.seat in
    let h = c.args.pass.now.host in
    let hand = c.args.pass.now.in_hand.items in
    let after = c.next.new.pass.in_hand.items in
    let old = seen_of c.args.pass.now.seat in
    let new = seen_of c.next.new.pass.seat in
    speaks-whole o k hand after old new (g.K.Sink.written c.args.sink.now) (g.K.Sink.written c.args.sink.now) _
    (quiet-whole o k h Memory hand after old new (Err c.in-Err.field-0) c.in-Err.ensures.does c.in-Err.ensures.does.does.1 c.in-Err.ensures.does.does.0 (g.K.Sink.written c.args.sink.now))

pub returns-in-Ok-Over-clause-over : goal.returns-in-Ok-Over-clause-over
returns-in-Ok-Over-clause-over g c = λ no.
    let o = g.B.Opening.origin in
    let k = number_of c.args.pass.now.seat in
    let h = c.args.pass.now.host in
    let hand = c.args.pass.now.in_hand.items in
    let after = c.next.new.pass.in_hand.items in
    let old = seen_of c.args.pass.now.seat in
    let new = seen_of c.next.new.pass.seat in
    over-found o k h Memory hand after old new (next-as o k h Memory hand after old new c.in-Ok-Over.field-0 Over c.in-Ok-Over.field-0-is c.in-Ok-Over.ensures.does) c.next.ensures.hand

pub returns-in-Ok-clause-going : goal.returns-in-Ok-clause-going
returns-in-Ok-clause-going g c =
    goes-next g.B.Opening.origin (number_of c.args.pass.now.seat) c.args.pass.now.host c.args.pass.now.in_hand.items c.next.new.pass.in_hand.items (seen_of c.args.pass.now.seat)
    (seen_of c.next.new.pass.seat) c.next.result c.next.ensures.does

pub returns-in-Err-put_line-clause-going : goal.returns-in-Err-put_line-clause-going
returns-in-Err-put_line-clause-going g c =
    goes-next g.B.Opening.origin (number_of c.args.pass.now.seat) c.args.pass.now.host c.args.pass.now.in_hand.items c.next.new.pass.in_hand.items (seen_of c.args.pass.now.seat)
    (seen_of c.next.new.pass.seat) c.next.result c.next.ensures.does

pub returns-in-Ok-put_line-clause-going : goal.returns-in-Ok-put_line-clause-going
returns-in-Ok-put_line-clause-going g c =
    goes-next g.B.Opening.origin (number_of c.args.pass.now.seat) c.args.pass.now.host c.args.pass.now.in_hand.items c.next.new.pass.in_hand.items (seen_of c.args.pass.now.seat)
    (seen_of c.next.new.pass.seat) c.next.result c.next.ensures.does

pub returns-in-Err-put_line-2-clause-going : goal.returns-in-Err-put_line-2-clause-going
returns-in-Err-put_line-2-clause-going g c =
    goes-next g.B.Opening.origin (number_of c.args.pass.now.seat) c.args.pass.now.host c.args.pass.now.in_hand.items c.next.new.pass.in_hand.items (seen_of c.args.pass.now.seat)
    (seen_of c.next.new.pass.seat) c.next.result c.next.ensures.does

pub returns-in-Ok-NotYet-clause-going : goal.returns-in-Ok-NotYet-clause-going
returns-in-Ok-NotYet-clause-going g c =
    goes-next g.B.Opening.origin (number_of c.args.pass.now.seat) c.args.pass.now.host c.args.pass.now.in_hand.items c.next.new.pass.in_hand.items (seen_of c.args.pass.now.seat)
    (seen_of c.next.new.pass.seat) c.next.result c.next.ensures.does

pub returns-in-Ok-Over-clause-going : goal.returns-in-Ok-Over-clause-going
returns-in-Ok-Over-clause-going g c =
    goes-next g.B.Opening.origin (number_of c.args.pass.now.seat) c.args.pass.now.host c.args.pass.now.in_hand.items c.next.new.pass.in_hand.items (seen_of c.args.pass.now.seat)
    (seen_of c.next.new.pass.seat) c.next.result c.next.ensures.does

pub returns-in-Err-clause-going : goal.returns-in-Err-clause-going
returns-in-Err-clause-going g c =
    goes-next g.B.Opening.origin (number_of c.args.pass.now.seat) c.args.pass.now.host c.args.pass.now.in_hand.items c.next.new.pass.in_hand.items (seen_of c.args.pass.now.seat)
    (seen_of c.next.new.pass.seat) c.next.result c.next.ensures.does

pub returns-in-Ok-clause-ready : goal.returns-in-Ok-clause-ready
returns-in-Ok-clause-ready g c =
    record {
      writer = c.next.ensures.writer;
      hand = subst (λ (h : List ℕ). HandAt g.B.Opening.origin c.next.new.pass.in_hand.items h c.next.new.pass.seat) (sym c.next.ensures.same.1)
          c.next.ensures.hand;
    }

pub returns-in-Err-put_line-clause-ready : goal.returns-in-Err-put_line-clause-ready
returns-in-Err-put_line-clause-ready g c =
    record {
      writer = c.next.ensures.writer;
      hand = subst (λ (h : List ℕ). HandAt g.B.Opening.origin c.next.new.pass.in_hand.items h c.next.new.pass.seat) (sym c.next.ensures.same.1)
          c.next.ensures.hand;
    }

pub returns-in-Ok-put_line-clause-ready : goal.returns-in-Ok-put_line-clause-ready
returns-in-Ok-put_line-clause-ready g c =
    record {
      writer = c.next.ensures.writer;
      hand = subst (λ (h : List ℕ). HandAt g.B.Opening.origin c.next.new.pass.in_hand.items h c.next.new.pass.seat) (sym c.next.ensures.same.1)
          c.next.ensures.hand;
    }

pub returns-in-Err-put_line-2-clause-ready : goal.returns-in-Err-put_line-2-clause-ready
returns-in-Err-put_line-2-clause-ready g c =
    record {
      writer = c.next.ensures.writer;
      hand = subst (λ (h : List ℕ). HandAt g.B.Opening.origin c.next.new.pass.in_hand.items h c.next.new.pass.seat) (sym c.next.ensures.same.1)
          c.next.ensures.hand;
    }

pub returns-in-Ok-NotYet-clause-ready : goal.returns-in-Ok-NotYet-clause-ready
returns-in-Ok-NotYet-clause-ready g c =
    record {
      writer = c.next.ensures.writer;
      hand = subst (λ (h : List ℕ). HandAt g.B.Opening.origin c.next.new.pass.in_hand.items h c.next.new.pass.seat) (sym c.next.ensures.same.1)
          c.next.ensures.hand;
    }

pub returns-in-Ok-Over-clause-ready : goal.returns-in-Ok-Over-clause-ready
returns-in-Ok-Over-clause-ready g c =
    record {
      writer = c.next.ensures.writer;
      hand = subst (λ (h : List ℕ). HandAt g.B.Opening.origin c.next.new.pass.in_hand.items h c.next.new.pass.seat) (sym c.next.ensures.same.1)
          c.next.ensures.hand;
    }

pub returns-in-Err-clause-ready : goal.returns-in-Err-clause-ready
returns-in-Err-clause-ready g c =
    record {
      writer = c.next.ensures.writer;
      hand = subst (λ (h : List ℕ). HandAt g.B.Opening.origin c.next.new.pass.in_hand.items h c.next.new.pass.seat) (sym c.next.ensures.same.1)
          c.next.ensures.hand;
    }
