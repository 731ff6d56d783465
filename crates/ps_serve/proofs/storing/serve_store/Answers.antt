use Rattle.std.proofs.Common.{inl, refl, sym, subst}
use Rattle.ps_journal.specs.Places.{entries_in}
use Rattle.ps_serve.specs.Headline.{Idle, the_limits}
use Rattle.ps_status.specs.Outside.{held_as}
use Rattle.ps_status.specs.declared.status.Status.{Status}
use Rattle.ps_serve.proofs.Headlines.{idle-refused}
use Rattle.ps_serve.proofs.Opened.{comes, may-start}
use Rattle.ps_serve.proofs.Works.{clock_by, length-same, sink_by, worst-same}
use Rattle.ps_serve.proofs.storing.serve_store.Goals as goal

pub live-requires-clause-start : goal.live-requires-clause-start
live-requires-clause-start g c κs within =
    let f = c.in-Ok.field-0 in
    let given = c.requires.1.1.1.1.1.1.1.1.1.1 in
    may-start c.args.disk c.args.service.now c.args.hosts.now (entries_in f.entries.items) f.state f.store g.start given.0
    the_limits given.1.0.0 given.1.1.1.0 given.1.1.1.1.0 c.in-Ok.ensures.opened

pub returns-in-Err : goal.returns-in-Err
returns-in-Err g c =
    let d = g.D.Disk in
    let e = c.in-Err.field-0 in
    inl (record {
      same = refl;
      idle =
          subst (λ (st : Status). Idle d.tells c.args.service.now (held_as d c.args.disk) (held_as d e.disk) (d.left_since e.disk) st) (sym c.not_opened.ensures)
          (idle-refused d c.args.service.now c.args.disk e.disk c.in-Err.ensures.any_moment c.in-Err.ensures.fronts e.why c.in-Err.ensures.still c.in-Err.ensures.damaged c.in-Err.ensures.refused);
    })

pub returns-in-Ok : goal.returns-in-Ok
returns-in-Ok g c =
    let f = c.in-Ok.field-0 in
    let given = c.requires.1.1.1.1.1.1.1.1.1.1 in
    let clock = clock_by g.C.Clock in
    let sink = sink_by g.K.Sink in
    comes c.args.disk c.args.service.now c.args.hosts.now (entries_in f.entries.items) f.state f.store g.start given.0
    _ c.args.ports.items c.live.result c.in-Ok.ensures.opened c.in-Ok.ensures.later c.in-Ok.ensures.any_moment c.in-Ok.ensures.fronts
    given.1.1.1.1.1.1.0 (worst-same clock sink c.args.ports.items) (length-same clock sink c.args.ports.items) c.live.ensures
