use Rattle.std.proofs.Common.{List, [], ℕ, true, refl, ap, sym, ◌∙◌, subst, arith}
use Rattle.ps_trace.specs.declared.deed.Deed.{Deed}
use Rattle.ps_twin.specs.Seats.{list_of, number_of, seen_of}
use Rattle.ps_twin.specs.Twins.{Prefix}
use Rattle.ps_world.proofs.Lists.{nil-right}
use Rattle.ps_model.specs.declared.steps.Step.TheVariants.{Broken}
use Rattle.ps_hall_flush.specs.Doing.{Adds}
use Rattle.ps_hall_store.specs.Stand.{mark_of}
use Rattle.ps_hall_flush.specs.Homes.{marked, world_at}
use Rattle.ps_hall_flush.proofs.Framing.{told_mark}
use Rattle.ps_hall_flush.proofs.Histories.{list_long, not_read, passes_as, read_within, told_before, told_front, told_stands, told_within, was_told}
use Rattle.ps_hall_flush.proofs.Marking.{same_store}
use Rattle.ps_hall_flush.proofs.reading.read_seat.Goals as goal

pub look-requires : goal.look-requires
look-requires g c =
    let e = c.enter_journal-archive.ensures in
    record { twin = e.twin; held = e.held; stands = e.list.stands; within = e.list.within; firm = e.firm; mark = e.mark }

-- the journal is broken

pub leave_journal-requires : goal.leave_journal-requires
leave_journal-requires g c =
    let n = c.look.ensures.as_was in
    let s = c.look.new.seat in
    record {
      twin = n.twin;
      held = n.held;
      list = (list_of s, record { stands = n.stands; within = n.within }, ([], sym (nil-right (list_of s))), n.front);
      firm = (let f = n.firm in omega (arith, f));
      mark = sym n.mark;
    }

pub returns-then-is_broken-clause-err : goal.returns-then-is_broken-clause-err
returns-then-is_broken-clause-err g c =
    let o = g.B.Opening.origin in
    let e = c.enter_journal-archive.ensures in
    let l = c.look.ensures in
    let p = passes_as o (number_of c.args.seat.now) (number_of c.enter_journal-archive.new.seat) (seen_of c.args.seat.now) (seen_of c.enter_journal-archive.new.seat) (seen_of c.look.new.seat)
    (seen_of c.look.new.seat) e.number e.seen refl l.passed in
    was_told o (number_of c.args.seat.now) (seen_of c.args.seat.now) (seen_of c.look.new.seat) (seen_of c.leave_journal.new.seat) p c.leave_journal.ensures.seen
    (told_before o c.args.twin.now c.look.new.seat c.enter_journal-archive.result.store l.as_was p.owned (sym c.is_broken.ensures ∙ c.if-is_broken.true))

-- the list was read

pub leave_journal-requires-in-Ok : goal.leave_journal-requires-in-Ok
leave_journal-requires-in-Ok g c =
    let o = g.B.Opening.origin in
    let n = c.look.ensures.as_was in
    let s = c.look.new.seat in
    let x = c.in-Ok.ensures in
    let stands = (x.ok o.at (world_at o (list_of s)) n.stands).0 in
    record {
      twin = n.twin;
      held = n.held;
      list = (
        list_of s,
        record { stands = stands; within = read_within o c.args.twin.now s c.enter_journal-archive.result.store c.entries.new.self n x.firm x.length x.mark },
        ([], sym (nil-right (list_of s))),
        n.front,
      );
      firm = (let f = n.firm in let h = x.firm in omega (arith, f, h));
      mark = same_store o.at (world_at o (list_of s)) c.enter_journal-archive.result.store c.entries.new.self n.stands stands x.mark ∙ sym n.mark;
    }

pub returns-in-Ok-clause-ok : goal.returns-in-Ok-clause-ok
returns-in-Ok-clause-ok g c =
    let o = g.B.Opening.origin in
    let e = c.enter_journal-archive.ensures in
    let l = c.look.ensures in
    let n = l.as_was in
    let s = c.look.new.seat in
    let seen = c.leave_journal-in-Ok.ensures.seen in
    record {
      passed = passes_as o (number_of c.args.seat.now) (number_of c.enter_journal-archive.new.seat) (seen_of c.args.seat.now) (seen_of c.enter_journal-archive.new.seat) (seen_of s)
          (seen_of c.leave_journal-in-Ok.new.seat) e.number e.seen seen l.passed;
      read = record {
        front = list_of s;
        is = subst (λ (log : List Deed). Prefix (list_of s) log) (sym seen) n.front;
        enough = list_long o c.args.twin.now s c.enter_journal-archive.result.store _ n e.least;
        list = λ tells. (c.in-Ok.ensures.ok o.at (world_at o (list_of s)) n.stands).2 tells;
      };
    }

-- there was no memory

pub leave_journal-requires-in-Err-Memory : goal.leave_journal-requires-in-Err-Memory
leave_journal-requires-in-Err-Memory g c =
    let o = g.B.Opening.origin in
    let n = c.look.ensures.as_was in
    let s = c.look.new.seat in
    let x = c.in-Err-Memory.ensures in
    let stands = (rw c.in-Err-Memory.field-0-is at x.err) o.at (world_at o (list_of s)) n.stands in
    record {
      twin = n.twin;
      held = n.held;
      list = (
        list_of s,
        record { stands = stands; within = read_within o c.args.twin.now s c.enter_journal-archive.result.store c.entries.new.self n x.firm x.length x.mark },
        ([], sym (nil-right (list_of s))),
        n.front,
      );
      firm = (let f = n.firm in let h = x.firm in omega (arith, f, h));
      mark = same_store o.at (world_at o (list_of s)) c.enter_journal-archive.result.store c.entries.new.self n.stands stands x.mark ∙ sym n.mark;
    }

pub returns-in-Err-Memory-clause-err : goal.returns-in-Err-Memory-clause-err
returns-in-Err-Memory-clause-err g c =
    let e = c.enter_journal-archive.ensures in
    let left = c.leave_journal-in-Err-Memory in
    passes_as g.B.Opening.origin (number_of c.args.seat.now) (number_of c.enter_journal-archive.new.seat) (seen_of c.args.seat.now) (seen_of c.enter_journal-archive.new.seat)
    (seen_of c.look.new.seat) (seen_of left.new.seat) e.number e.seen left.ensures.seen c.look.ensures.passed

-- the disk failed

pub leave_journal-requires-in-Err-Store : goal.leave_journal-requires-in-Err-Store
leave_journal-requires-in-Err-Store g c =
    let o = g.B.Opening.origin in
    let t = c.args.twin.now in
    let n = c.look.ensures.as_was in
    let s = c.look.new.seat in
    let s' = c.tell_fault-steps.new.seat in
    let x = c.in-Err-Store.ensures in
    let told = c.tell_fault-steps.ensures in
    let m = c.note.ensures in
    let y = c.enter_journal-archive.result.store in
    let stands = told_stands o t s s' y c.entries.new.self c.note.new.self c.tell_fault-steps.result (number_of s) n (sym c.is_broken.ensures ∙ c.if-is_broken.false)
    (rw c.in-Err-Store.field-0-is at x.err) m.notes told.steps told.added told.broken in
    record {
      twin = told.twin;
      held = told.held;
      list = (
        seen_of s',
        record {
          stands = stands;
          within = told_within o t s s' y c.note.new.self (number_of s) n (sym c.is_broken.ensures ∙ c.if-is_broken.false) (m.firm ∙ x.firm) (m.length ∙ x.length) (m.mark ∙ x.mark) told.added
              told.measured;
        },
        told_front o t s s' y (number_of s) n told.hand.list told.added,
        ([], sym (nil-right (seen_of s'))),
      );
      firm = (let a = told.hand.firm in let b = n.firm in let d = x.firm in let e = m.firm in omega (arith, a, b, d, e));
      mark = told_mark o t s s' c.note.new.self (mark_of y) stands told.broken told.hand (ap (λ (k : ℕ × ℕ). marked true k) (sym n.mark)) (m.mark ∙ x.mark);
    }

pub returns-in-Err-Store-clause-err : goal.returns-in-Err-Store-clause-err
returns-in-Err-Store-clause-err g c =
    let o = g.B.Opening.origin in
    let e = c.enter_journal-archive.ensures in
    let l = c.look.ensures in
    let k = number_of c.args.seat.now in
    let old = seen_of c.args.seat.now in
    let found = seen_of c.look.new.seat in
    let left = c.leave_journal-in-Err-Store in
    let p = passes_as o k (number_of c.enter_journal-archive.new.seat) old (seen_of c.enter_journal-archive.new.seat) found found e.number e.seen refl l.passed in
    not_read o k (number_of c.look.new.seat) old found (seen_of left.new.seat) (l.number ∙ e.number) p
    (subst (λ (log : List Deed). Adds o (number_of c.look.new.seat) found log Broken) (sym left.ensures.seen) c.tell_fault-steps.ensures.added)
