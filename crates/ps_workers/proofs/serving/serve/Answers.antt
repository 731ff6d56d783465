use Rattle.std.proofs.Common.{◌++◌, length, take, drop, ap, ◌∙◌, arith}
use Rattle.ps_workers.specs.Working.{clocks, sinks}
use Rattle.ps_workers.proofs.Teaming.{team_length}
use Rattle.ps_workers.proofs.Streams.{back_ok, paired_ok, ready_now, same_size, serves_ok, size_ok, some_now, written_back}
use Rattle.ps_workers.proofs.serving.serve.Goals as goal

pub gather-workers-requires-clause-same : goal.gather-workers-requires-clause-same
gather-workers-requires-clause-same g c = same_size g.B.Opening.origin c.args.hall.twin (clocks (λ x. g.C.Clock.faults x) (λ x. g.C.Clock.told x))
    (sinks (λ x. g.K.Sink.faults x) (λ x. g.K.Sink.written x)) c.args.passes.items c.args.ports.items c.requires.passes c.requires.ports

pub gather-workers-requires-clause-room : goal.gather-workers-requires-clause-room
gather-workers-requires-clause-room g c = let n = c.requires.passes.all.size in let m = c.requires.room.workers_fit in omega (arith, n, m)

pub work_all-requires-clause-some : goal.work_all-requires-clause-some
work_all-requires-clause-some g c κs within = some_now g.B.Opening.origin c.args.hall.twin (clocks (λ x. g.C.Clock.faults x) (λ x. g.C.Clock.told x))
    (sinks (λ x. g.K.Sink.faults x) (λ x. g.K.Sink.written x)) c.args.passes.items c.args.ports.items c.requires.passes c.requires.ports
    c.as_mut_slice.result.now c.as_mut_slice.result.now (c.as_mut_slice.ensures.value ∙ c.gather-workers.ensures) c.requires.some

pub work_all-requires-clause-ready : goal.work_all-requires-clause-ready
work_all-requires-clause-ready g c = λ κs within. ready_now g.B.Opening.origin c.args.hall.twin (clocks (λ x. g.C.Clock.faults x) (λ x. g.C.Clock.told x))
    (sinks (λ x. g.K.Sink.faults x) (λ x. g.K.Sink.written x)) c.args.passes.items c.args.ports.items c.requires.passes c.requires.ports
    c.as_mut_slice.result.now c.as_mut_slice.result.now (c.as_mut_slice.ensures.value ∙ c.gather-workers.ensures) c.requires.fresh

pub part-passes-requires-clause-paired : goal.part-passes-requires-clause-paired
part-passes-requires-clause-paired g c = paired_ok g.B.Opening.origin c.args.hall.twin (clocks (λ x. g.C.Clock.faults x) (λ x. g.C.Clock.told x))
    (sinks (λ x. g.K.Sink.faults x) (λ x. g.K.Sink.written x)) c.args.passes.items c.args.ports.items c.requires.passes c.requires.ports
    c.as_mut_slice.result.now c.work_all.new.workers (c.as_mut_slice.ensures.value ∙ c.gather-workers.ensures) c.work_all.auto.workers c.work_all.ensures
    (take c.gather-workers.result.len (c.work_all.new.workers ++ drop (length c.work_all.new.workers) c.gather-workers.result.items))
    (written_back c.gather-workers.result.len c.gather-workers.result.items c.work_all.new.workers c.gather-workers.result.ok.0 (c.work_all.auto.workers ∙ ap length c.as_mut_slice.ensures.value))

pub close-state-requires : goal.close-state-requires
close-state-requires g c = back_ok g.B.Opening.origin c.args.hall.twin (clocks (λ x. g.C.Clock.faults x) (λ x. g.C.Clock.told x)) (sinks (λ x. g.K.Sink.faults x) (λ x. g.K.Sink.written x))
    c.args.passes.items c.args.ports.items c.requires.passes c.requires.ports
    c.as_mut_slice.result.now c.work_all.new.workers (c.as_mut_slice.ensures.value ∙ c.gather-workers.ensures) c.work_all.auto.workers c.work_all.ensures
    (take c.gather-workers.result.len (c.work_all.new.workers ++ drop (length c.work_all.new.workers) c.gather-workers.result.items))
    (written_back c.gather-workers.result.len c.gather-workers.result.items c.work_all.new.workers c.gather-workers.result.ok.0 (c.work_all.auto.workers ∙ ap length c.as_mut_slice.ensures.value))
    c.part-passes.result.0.items c.part-passes.ensures.passes

pub returns-clause-size : goal.returns-clause-size
returns-clause-size g c = size_ok g.B.Opening.origin c.args.hall.twin (clocks (λ x. g.C.Clock.faults x) (λ x. g.C.Clock.told x)) (sinks (λ x. g.K.Sink.faults x) (λ x. g.K.Sink.written x))
    c.args.passes.items c.args.ports.items c.requires.passes c.requires.ports
    c.as_mut_slice.result.now c.work_all.new.workers (c.as_mut_slice.ensures.value ∙ c.gather-workers.ensures) c.work_all.auto.workers c.work_all.ensures
    (take c.gather-workers.result.len (c.work_all.new.workers ++ drop (length c.work_all.new.workers) c.gather-workers.result.items))
    (written_back c.gather-workers.result.len c.gather-workers.result.items c.work_all.new.workers c.gather-workers.result.ok.0 (c.work_all.auto.workers ∙ ap length c.as_mut_slice.ensures.value))
    c.part-passes.result.1.items c.part-passes.ensures.ended

pub returns-clause-serves : goal.returns-clause-serves
returns-clause-serves g c = serves_ok g.B.Opening.origin c.args.hall.twin (clocks (λ x. g.C.Clock.faults x) (λ x. g.C.Clock.told x)) (sinks (λ x. g.K.Sink.faults x) (λ x. g.K.Sink.written x))
    c.args.passes.items c.args.ports.items c.requires.passes c.requires.ports
    c.as_mut_slice.result.now c.work_all.new.workers (c.as_mut_slice.ensures.value ∙ c.gather-workers.ensures) c.work_all.auto.workers c.work_all.ensures
    (take c.gather-workers.result.len (c.work_all.new.workers ++ drop (length c.work_all.new.workers) c.gather-workers.result.items))
    (written_back c.gather-workers.result.len c.gather-workers.result.items c.work_all.new.workers c.gather-workers.result.ok.0 (c.work_all.auto.workers ∙ ap length c.as_mut_slice.ensures.value))
    c.part-passes.result.0.items c.part-passes.ensures.passes c.requires.differ c.close-state.result.0 c.close-state.result.1 c.part-passes.result.1.items c.part-passes.ensures.ended
    c.close-state.ensures

pub part-passes-requires-clause-passes : goal.part-passes-requires-clause-passes
part-passes-requires-clause-passes g c = (
    let a = c.gather-workers.result.ok.0 in
    let b = ap length c.gather-workers.ensures in
    let d = team_length c.args.passes.items c.args.ports.items (same_size g.B.Opening.origin c.args.hall.twin (clocks (λ x. g.C.Clock.faults x) (λ x. g.C.Clock.told x))
    (sinks (λ x. g.K.Sink.faults x) (λ x. g.K.Sink.written x)) c.args.passes.items c.args.ports.items c.requires.passes c.requires.ports) in
    let n = c.requires.passes.all.size in
    let f = c.requires.room.passes_fit in
    omega (arith, a, b, d, n, f))

pub part-passes-requires-clause-ended : goal.part-passes-requires-clause-ended
part-passes-requires-clause-ended g c = (
    let a = c.gather-workers.result.ok.0 in
    let b = ap length c.gather-workers.ensures in
    let d = team_length c.args.passes.items c.args.ports.items (same_size g.B.Opening.origin c.args.hall.twin (clocks (λ x. g.C.Clock.faults x) (λ x. g.C.Clock.told x))
    (sinks (λ x. g.K.Sink.faults x) (λ x. g.K.Sink.written x)) c.args.passes.items c.args.ports.items c.requires.passes c.requires.ports) in
    let n = c.requires.passes.all.size in
    let f = c.requires.room.ended_fit in
    omega (arith, a, b, d, n, f))
