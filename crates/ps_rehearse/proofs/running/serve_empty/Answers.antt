use Rattle.std.proofs.Common.{refl}
use Rattle.ps_journal.specs.Places.{entries_in}
use Rattle.ps_workers.specs.Teams.{worked_of}
use Rattle.ps_workers.specs.Working.{clocks, sinks}
use Rattle.ps_rehearse.specs.Running.{the_limits}
use Rattle.ps_rehearse.proofs.Empty.{may-start, ran-empty}
use Rattle.ps_rehearse.proofs.running.serve_empty.Goals as goal

pub live-requires-clause-start : goal.live-requires-clause-start
live-requires-clause-start g c κs within =
    let f = c.in-Ok.field-0 in
    may-start c.args.disk c.args.service.now c.args.hosts.now the_limits (entries_in f.entries.items) f.state f.store c.requires.empty c.in-Ok.ensures.opened
    c.requires.service.0 c.requires.some c.requires.few

pub returns-in-Ok : goal.returns-in-Ok
returns-in-Ok g c =
    let f = c.in-Ok.field-0 in
    ran-empty c.args.disk c.args.service.now c.args.hosts.now the_limits (entries_in f.entries.items) f.state f.store c.requires.empty c.in-Ok.ensures.opened
    (worked_of (clocks (λ x. g.C.Clock.faults x) (λ x. g.C.Clock.told x)) (sinks (λ x. g.K.Sink.faults x) (λ x. g.K.Sink.written x))) c.args.ports.items c.live.result refl c.live.ensures
