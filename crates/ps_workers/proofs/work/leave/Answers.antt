use Rattle.std.proofs.Common.{◌≡◌, ap, arith}
use Rattle.ps_twin.specs.Seats.{number_of, seen_of}
use Rattle.ps_wire.specs.Reading.{given_of, rest_of, source_of}
use Rattle.ps_wire.proofs.Gaining.{gave_none}
use Rattle.ps_hall.specs.declared.answers.EndCause.TheVariants.{Memory, WriteFault}
use Rattle.ps_streams.specs.Reading.{says_gone}
use Rattle.ps_workers.proofs.Jobs.{did_read, did_write, may_read, may_write}
use Rattle.ps_workers.proofs.Unread.{speaks-none}
use Rattle.ps_workers.proofs.work.leave.Goals as goal

pub leave_unread-requires-clause-reader : goal.leave_unread-requires-clause-reader
leave_unread-requires-clause-reader g c κs within =
    (may_read g.B.Opening.origin c.args.hall.now.twin c.args.worker.now c.requires.ready c.in-Reader.field-0 c.in-Reader.field-1 c.in-Reader.end c.in-Reader.is).0

pub leave_unread-requires-clause-fresh : goal.leave_unread-requires-clause-fresh
leave_unread-requires-clause-fresh g c κs within = c.requires.ready.fresh

pub writer_ended-requires : goal.writer_ended-requires
writer_ended-requires g c = record { writer = (may_write g.B.Opening.origin c.args.hall.now.twin c.args.worker.now c.requires.ready c.in-Writer.field-0 c.in-Writer.why c.in-Writer.is).writer }

pub returns-in-Reader : goal.returns-in-Reader
returns-in-Reader g c =
    let e = c.leave_unread.ensures in
    let lines = c.in-Reader.field-0 in
    let clock = c.in-Reader.field-1 in
    let left = g.S.Source.left (source_of lines) in
    record {
      did = did_read g.B.Opening.origin c.args.hall.now.twin c.args.worker.now c.requires.ready (λ x. g.C.Clock.faults x) (λ x. g.C.Clock.told x) (λ x. g.K.Sink.faults x) (λ x. g.K.Sink.written x)
          c.leave_unread.new.pass
          lines lines clock clock c.in-Reader.end c.leave_unread.result c.in-Reader.is e.reader e.same (e.read (rest_of lines) left (g.C.Clock.told clock)) (omega arith)
          (λ x. absurd (e.never (ap says_gone x))) (λ x. absurd (e.never (ap says_gone x)))
          (λ x. absurd (e.never x)) (gave_none left (given_of lines)) (λ x. absurd (e.never (ap says_gone x))) (λ x. absurd (e.never (ap says_gone x))) e.store e.full
          (λ x. absurd (e.never (ap says_gone x)));
    }

pub returns-in-Writer : goal.returns-in-Writer
returns-in-Writer g c =
    let e = c.writer_ended.ensures in
    let o = g.B.Opening.origin in
    let p = c.args.worker.now.pass in
    let sink = c.in-Writer.field-0 in
    let may = may_write o c.args.hall.now.twin c.args.worker.now c.requires.ready sink c.in-Writer.why c.in-Writer.is in
    record {
      did = did_write o c.args.hall.now.twin c.args.worker.now c.requires.ready (λ x. g.C.Clock.faults x) (λ x. g.C.Clock.told x) (λ x. g.K.Sink.faults x) (λ x. g.K.Sink.written x)
          c.writer_ended.new.pass
          sink sink c.in-Writer.why Memory c.in-Writer.is e.writer (record { at = e.same.0; host = e.same.1 })
          (speaks-none o p.host (number_of p.seat) (seen_of p.seat) (seen_of c.writer_ended.new.pass.seat) (g.K.Sink.written sink) (Memory ≡ WriteFault) may.writer.pass.owned e.ended)
          (λ x. absurd (cc x)) (omega arith) (λ x. absurd (cc x)) (λ x. absurd (cc x)) (λ x. absurd (cc x));
    }
