use Rattle.std.proofs.Common.{◌∙◌, ap, sym, arith, [], ℕ, true}
use Rattle.ps_model.specs.declared.steps.Step.TheVariants.{Flush}
use Rattle.ps_twin.specs.Seats.{seen_of, number_of, list_of}
use Rattle.ps_world.proofs.Lists.{nil-right}
use Rattle.ps_hall_flush.specs.Homes.{marked, world_at}
use Rattle.ps_hall_flush.proofs.Framing.{adds_as, failed_front, failed_stands, failed_within, frame_steps, is_written, told_mark, written_firm, written_known, written_mark, written_within}
use Rattle.ps_hall_flush.proofs.flush.write_frame.Goals as goal

pub append-requires : goal.append-requires
append-requires g c = record { some = c.requires.some }

pub leave_journal-requires : goal.leave_journal-requires
leave_journal-requires g c =
    let o = g.B.Opening.origin in
    let r = c.requires in
    let did = c.in-Ok.ensures in
    let s = c.args.seat.now in
    record {
      twin = r.twin;
      held = r.held;
      list = (
        seen_of s,
        record {
          stands = did.ok o.at (world_at o (list_of s)) (world_at o (seen_of s)) r.loaded;
          within = written_within o c.args.twin.now s c.args.archive.store c.append.new.self c.args.frame r did.ok did.mark did.firm;
        },
        r.front,
        ([], sym (nil-right (seen_of s))),
      );
      firm = written_firm o c.args.twin.now s c.args.archive.store c.append.new.self c.args.frame r did.firm;
      mark = written_mark o c.args.twin.now s c.args.archive.store c.append.new.self c.args.frame r did.ok did.mark;
    }

pub end_frame-requires : goal.end_frame-requires
end_frame-requires g c =
    let left = c.leave_journal.ensures in
    is_written g.B.Opening.origin c.args.twin.now c.args.seat.now c.leave_journal.new.seat c.args.archive.store c.append.new.self c.args.frame c.requires left.twin left.free left.seen
    c.in-Ok.ensures.firm left.firm

pub returns-in-Ok-clause-number : goal.returns-in-Ok-clause-number
returns-in-Ok-clause-number g c = c.end_frame.ensures.number ∙ c.leave_journal.ensures.number

pub returns-in-Ok-clause-ok : goal.returns-in-Ok-clause-ok
returns-in-Ok-clause-ok g c =
    let o = g.B.Opening.origin in
    let left = c.leave_journal.ensures in
    adds_as o (number_of c.leave_journal.new.seat) (number_of c.args.seat.now) (seen_of c.leave_journal.new.seat) (seen_of c.args.seat.now) (seen_of c.end_frame.new.seat) (Flush c.args.frame.steps)
    (Flush _) left.number left.seen
    (ap Flush (frame_steps o c.args.twin.now c.args.seat.now c.args.archive.store c.args.frame c.requires)) c.end_frame.ensures.added

pub returns-in-Ok-clause-known : goal.returns-in-Ok-clause-known
returns-in-Ok-clause-known g c =
    written_known g.B.Opening.origin c.args.twin.now c.args.seat.now c.leave_journal.new.seat c.end_frame.new.seat c.args.archive.store c.append.new.self c.args.frame c.requires c.in-Ok.ensures.firm
    c.leave_journal.ensures.firm c.end_frame.ensures.known

pub leave_journal-requires-in-Err : goal.leave_journal-requires-in-Err
leave_journal-requires-in-Err g c =
    let o = g.B.Opening.origin in
    let t = c.args.twin.now in
    let r = c.requires in
    let did = c.in-Err.ensures in
    let n = c.tell_fault-steps.ensures in
    let m = c.note.ensures in
    let s = c.args.seat.now in
    let s' = c.tell_fault-steps.new.seat in
    let f = c.args.frame in
    let stands = failed_stands o t s s' c.args.archive.store c.append.new.self c.note.new.self f c.tell_fault-steps.result (number_of s) r did.err m.notes n.steps n.added n.broken in
    record {
      twin = n.twin;
      held = n.held;
      list = (
        seen_of s',
        record {
          stands = stands;
          within = failed_within o t s s' c.args.archive.store c.note.new.self f (number_of s) r (m.firm ∙ did.firm_same) (let a = did.grows in let b = m.length in omega (arith, a, b))
              (m.mark ∙ did.mark) n.added n.measured;
        },
        failed_front o t s s' c.args.archive.store f (number_of s) r n.hand.list n.added,
        ([], sym (nil-right (seen_of s'))),
      );
      firm = (let a = n.hand.firm in let b = r.firm in let d = did.firm_same in let e = m.firm in omega (arith, a, b, d, e));
      mark = told_mark o t s s' c.note.new.self (f.count, f.length) stands n.broken n.hand (ap (λ (k : ℕ × ℕ). marked true k) (sym r.mark)) (m.mark ∙ did.mark);
    }
