use Rattle.ps_workers.proofs.Jobs.{did_read, did_write, may_read, may_write}
use Rattle.ps_workers.proofs.work.do_work.Goals as goal

pub read_stream-requires-clause-reader : goal.read_stream-requires-clause-reader
read_stream-requires-clause-reader g c κs within =
    (may_read g.B.Opening.origin c.args.hall.now.twin c.args.worker.now c.requires.ready c.in-Reader.lines c.in-Reader.clock c.in-Reader.end c.in-Reader.is).0

pub read_stream-requires-clause-going : goal.read_stream-requires-clause-going
read_stream-requires-clause-going g c κs within =
    (may_read g.B.Opening.origin c.args.hall.now.twin c.args.worker.now c.requires.ready c.in-Reader.lines c.in-Reader.clock c.in-Reader.end c.in-Reader.is).1.going

pub write_stream-requires-clause-ready : goal.write_stream-requires-clause-ready
write_stream-requires-clause-ready g c κs within = may_write g.B.Opening.origin c.args.hall.now.twin c.args.worker.now c.requires.ready c.in-Writer.sink c.in-Writer.why c.in-Writer.is

pub returns-in-Reader : goal.returns-in-Reader
returns-in-Reader g c =
    let e = c.read_stream.ensures in
    record {
      did = did_read g.B.Opening.origin c.args.hall.now.twin c.args.worker.now c.requires.ready (λ x. g.C.Clock.faults x) (λ x. g.C.Clock.told x) (λ x. g.K.Sink.faults x) (λ x. g.K.Sink.written x)
          c.read_stream.new.pass
          c.in-Reader.lines c.read_stream.new.lines c.in-Reader.clock c.read_stream.new.clock c.in-Reader.end c.read_stream.result c.in-Reader.is e.reader e.same e.read e.later e.fault e.long e.gone
          e.gave e.early e.whole e.store e.full e.closed;
    }

pub returns-in-Writer : goal.returns-in-Writer
returns-in-Writer g c =
    let e = c.write_stream.ensures in
    record {
      did = did_write g.B.Opening.origin c.args.hall.now.twin c.args.worker.now c.requires.ready (λ x. g.C.Clock.faults x) (λ x. g.C.Clock.told x) (λ x. g.K.Sink.faults x) (λ x. g.K.Sink.written x)
          c.write_stream.new.pass
          c.in-Writer.sink c.write_stream.new.sink c.in-Writer.why c.write_stream.result c.in-Writer.is e.writer e.same e.spoke e.done e.later e.cause e.store e.full;
    }
