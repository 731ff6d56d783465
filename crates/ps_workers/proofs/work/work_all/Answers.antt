use Rattle.std.proofs.Common.{get_or, subst, sym}
use denote.Param.Send.{arg_sync, param_sync, recorded_sync, sendable, shr_sync, struct_sync}
use Rattle.std.proofs.Crossing as std
use Rattle.ps_wire.proofs.lines.Lines.TheSendSync as lines
use Rattle.ps_workers.proofs.work.Worker.TheSendSync as worker
use Rattle.ps_workers.proofs.muster.Muster.TheSendSync as muster
use Rattle.ps_workers.specs.Working.{DidWork, IsReady, clocks, sinks}
use Rattle.ps_workers.proofs.Sending.{hall, pass}
use Rattle.ps_workers.proofs.work.work_all.Goals as goal

pub for_each_mut-requires-send-T : goal.for_each_mut-requires-send-T
for_each_mut-requires-send-T g c κs within = search (worker.the_send, pass, lines.the_send, std.crosses, sendable) depth 40 fits 20000

pub for_each_mut-requires-sync-F : goal.for_each_mut-requires-sync-F
for_each_mut-requires-sync-F g c κs within = search (hall, muster.the_sync, std.sync, param_sync, arg_sync, shr_sync, struct_sync, recorded_sync) depth 60 fits 20000

pub for_each_mut-requires-clause-accepts : goal.for_each_mut-requires-clause-accepts
for_each_mut-requires-clause-accepts g c κs within = λ i p low e.
    ((subst (λ w. IsReady g.B.Opening.origin c.args.hall.now.twin w) (sym e) (c.requires.ready i p.now low), c.requires.differ), search (std.crosses, sendable) depth 20)

pub returns : goal.returns
returns g c = λ i d low.
    let at = (c.for_each_mut.ensures i d low).1 in
    let o = g.B.Opening.origin in
    let t = c.args.hall.now.twin in
    let clock_of = clocks (λ x. g.C.Clock.faults x) (λ x. g.C.Clock.told x) in
    let sink_of = sinks (λ x. g.K.Sink.faults x) (λ x. g.K.Sink.written x) in
    subst (λ w. DidWork o t clock_of sink_of (get_or c.args.workers.now i d) w) at.left
    (subst (λ w. DidWork o t clock_of sink_of w at.after_call.now) at.argument_is at.call)
