use Rattle.std.proofs.Common.{arith, refl, sym, ◌∙◌, []}
use Rattle.ps_twin.specs.Seats.{known_of, list_of, number_of, seen_of}
use Rattle.ps_world.proofs.Lists.{nil-right}
use Rattle.ps_hall_flush.proofs.Flushing.{flush_err, flush_ok, known_ok, spared_by}
use Rattle.ps_hall_flush.proofs.Histories.{passes_as, was_told}
use Rattle.ps_hall_flush.proofs.flush.flush_seat.Goals as goal

pub begin_frame-requires : goal.begin_frame-requires
begin_frame-requires g c =
    let e = c.enter_journal-archive.ensures in
    record { twin = e.twin; held = e.held; stands = e.list.stands; within = e.list.within; firm = e.firm; mark = e.mark }

pub leave_journal-requires : goal.leave_journal-requires
leave_journal-requires g c =
    let n = (rw c.in-Ok-None.field-0-is at c.in-Ok-None.ensures.none).as_was in
    let s = c.begin_frame.new.seat in
    record {
      twin = n.twin;
      held = n.held;
      list = (list_of s, record { stands = n.stands; within = n.within }, ([], sym (nil-right (list_of s))), n.front);
      firm = (let f = n.firm in omega (arith, f));
      mark = sym n.mark;
    }

pub leave_journal-requires-in-Err : goal.leave_journal-requires-in-Err
leave_journal-requires-in-Err g c =
    let n = c.in-Err.ensures.err.as_was in
    let s = c.begin_frame.new.seat in
    record {
      twin = n.twin;
      held = n.held;
      list = (list_of s, record { stands = n.stands; within = n.within }, ([], sym (nil-right (list_of s))), n.front);
      firm = (let f = n.firm in omega (arith, f));
      mark = sym n.mark;
    }

-- a frame is written

pub write_frame-requires : goal.write_frame-requires
write_frame-requires g c = rw c.in-Ok-Some.field-0-is at c.in-Ok-Some.ensures.some

pub returns-in-Ok-Some-clause-ok : goal.returns-in-Ok-Some-clause-ok
returns-in-Ok-Some-clause-ok g c =
    let o = g.B.Opening.origin in
    let e = c.enter_journal-archive.ensures in
    let k = number_of c.args.seat.now in
    let old = seen_of c.args.seat.now in
    let found = seen_of c.begin_frame.new.seat in
    let b = c.in-Ok-Some.ensures in
    let p = passes_as o k (number_of c.enter_journal-archive.new.seat) old (seen_of c.enter_journal-archive.new.seat) found found e.number e.seen refl b.passed in
    flush_ok o k (number_of c.begin_frame.new.seat) old found (seen_of c.write_frame.new.seat) c.write_frame.result (b.number ∙ e.number) p (rw c.in-Ok-Some.field-0-is at b.some).loaded.unbroken
    c.write_frame.ensures.ok

pub returns-in-Ok-Some-clause-known : goal.returns-in-Ok-Some-clause-known
returns-in-Ok-Some-clause-known g c =
    let o = g.B.Opening.origin in
    let e = c.enter_journal-archive.ensures in
    let k = number_of c.args.seat.now in
    let old = seen_of c.args.seat.now in
    let found = seen_of c.begin_frame.new.seat in
    let p = passes_as o k (number_of c.enter_journal-archive.new.seat) old (seen_of c.enter_journal-archive.new.seat) found found e.number e.seen refl c.in-Ok-Some.ensures.passed in
    known_ok o k (known_of c.write_frame.new.seat) old found c.write_frame.result p c.write_frame.ensures.known

pub returns-in-Ok-Some-clause-err : goal.returns-in-Ok-Some-clause-err
returns-in-Ok-Some-clause-err g c =
    let o = g.B.Opening.origin in
    let e = c.enter_journal-archive.ensures in
    let k = number_of c.args.seat.now in
    let old = seen_of c.args.seat.now in
    let found = seen_of c.begin_frame.new.seat in
    let b = c.in-Ok-Some.ensures in
    let p = passes_as o k (number_of c.enter_journal-archive.new.seat) old (seen_of c.enter_journal-archive.new.seat) found found e.number e.seen refl b.passed in
    flush_err o k (number_of c.begin_frame.new.seat) old found (seen_of c.write_frame.new.seat) c.write_frame.result (b.number ∙ e.number) p c.write_frame.ensures.err

-- others had flushed it

pub returns-in-Ok-None-clause-ok : goal.returns-in-Ok-None-clause-ok
returns-in-Ok-None-clause-ok g c =
    let o = g.B.Opening.origin in
    let e = c.enter_journal-archive.ensures in
    let k = number_of c.args.seat.now in
    let old = seen_of c.args.seat.now in
    let found = seen_of c.begin_frame.new.seat in
    let p = passes_as o k (number_of c.enter_journal-archive.new.seat) old (seen_of c.enter_journal-archive.new.seat) found found e.number e.seen refl c.in-Ok-None.ensures.passed in
    let n = rw c.in-Ok-None.field-0-is at c.in-Ok-None.ensures.none in
    spared_by o k old found (seen_of c.leave_journal.new.seat) p n.quiet c.leave_journal.ensures.seen (let s = c.seen-seen.ensures in let l = n.flushed in omega (arith, s, l))

pub returns-in-Ok-None-clause-known : goal.returns-in-Ok-None-clause-known
returns-in-Ok-None-clause-known g c =
    let n = rw c.in-Ok-None.field-0-is at c.in-Ok-None.ensures.none in
    let s = c.seen-seen.ensures in
    let l = n.known in
    let m = c.leave_journal.ensures.known in
    omega (arith, s, l, m)

-- a frame had failed

pub returns-in-Err-clause-err : goal.returns-in-Err-clause-err
returns-in-Err-clause-err g c =
    let o = g.B.Opening.origin in
    let e = c.enter_journal-archive.ensures in
    let k = number_of c.args.seat.now in
    let old = seen_of c.args.seat.now in
    let found = seen_of c.begin_frame.new.seat in
    let p = passes_as o k (number_of c.enter_journal-archive.new.seat) old (seen_of c.enter_journal-archive.new.seat) found found e.number e.seen refl c.in-Err.ensures.passed in
    was_told o k old found (seen_of c.leave_journal-in-Err.new.seat) p c.leave_journal-in-Err.ensures.seen c.in-Err.ensures.err.broken
