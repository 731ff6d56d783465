use denote.Param.Send.{given_send, given_sync, param_send, param_sync}
use Rattle.std.proofs.Common.{◌≢◌, ℕ, List, [], length, refl, sym, ◌∙◌, ap, subst, arith}
use Rattle.ps_hall_open.specs.Fresh.{AreHosts}
use Rattle.ps_workers.specs.Teams.{worked_of}
use Rattle.ps_serve.proofs.Over.{as-many, not-open, opened-fresh, ran-over}
use Rattle.ps_serve.proofs.Streams.{are-apart, are-hosts, host-count, leaves-then, some-host}
use Rattle.ps_serve.proofs.Works.{clock_by, sink_by}
use Rattle.ps_serve.proofs.serving.serve_over.Goals as goal

pub open_ports-requires-after_bounds : goal.open_ports-requires-after_bounds
open_ports-requires-after_bounds g c κs within =
    let well = c.requires.well.1 in
    are-apart c.args.streams.now well.apart_sources well.apart_sinks well.apart_hosts

pub serve_store-status-requires : goal.serve_store-status-requires
serve_store-status-requires g c κs within =
    let well = c.requires.well.1 in
    let streams = c.args.streams.now in
    let hosts = c.deref.ensures.value ∙ c.in-Ok.ensures.hosts in
    let many = ap length hosts ∙ host-count streams in (
      within.0,
      (
        within.1.0,
        (
          within.1.1.0,
          (
            within.1.1.1.0,
            (
              within.1.1.1.1,
              (
                param_send _ _ (given_send 4 _ g.row.W-Store c.type_bounds.send-W-Store),
                (
                  param_send _ _ (given_send 2 _ g.row.W-Reading c.type_bounds.send-W-Reading),
                  (
                    param_send _ _ (given_send 5 _ g.row.W-Ticking c.type_bounds.send-W-Ticking),
                    (
                      param_send _ _ (given_send 3 _ g.row.W-Writing c.type_bounds.send-W-Writing),
                      (
                        param_sync _ _ (given_sync 0 g.row.R c.type_bounds.sync-R),
                        (
                          refl,
                          (
                            (well.service, well.name),
                            (
                              subst AreHosts (sym hosts) (are-hosts c.args.service.now c.requires.well.0 streams well),
                              (
                                subst (λ (l : List (List ℕ)). l ≢ []) (sym hosts) (some-host c.args.service.now c.requires.well.0 streams well),
                                (
                                  (let few = well.few in omega (arith, many, few)),
                                  (
                                    opened-fresh g.W.World g.W.Writing.Sink g.W.Ticking.Clock c.args.world.now streams c.in-Ok-open_ports.ports.items c.in-Ok-open_ports.ensures.opened,
                                    (c.in-Ok-open_ports.ensures.many ∙ sym many, (c.in-Ok.ensures.empty, (let room = c.in-Ok.ensures.room in omega (arith, many, room)))),
                                  ),
                                ),
                              ),
                            ),
                          ),
                        ),
                      ),
                    ),
                  ),
                ),
              ),
            ),
          ),
        ),
      ),
    )

pub give_back_ports-requires-clause-apart : goal.give_back_ports-requires-clause-apart
give_back_ports-requires-clause-apart g c κs within =
    let well = c.requires.well.1 in
    are-apart c.args.streams.now well.apart_sources well.apart_sinks well.apart_hosts

pub give_back_ports-requires-clause-many : goal.give_back_ports-requires-clause-many
give_back_ports-requires-clause-many g c κs within =
    as-many g.W.Store.Disk (worked_of (clock_by g.W.Ticking.Clock) (sink_by g.W.Writing.Sink)) c.args.service.now c.deref.result.now c.args.disk
    c.in-Ok-open_ports.ports.items c.serve_store-status.result c.serve_store-status.ensures
    ∙ c.in-Ok-open_ports.ensures.many

pub returns-clause-ran : goal.returns-clause-ran
returns-clause-ran g c =
    let w = g.W.World in
    let streams = c.args.streams.now in
    let old = c.args.world.now in
    let new = c.give_back_ports.new.world in
    let given = c.give_back_ports.ensures in
    let opened = c.in-Ok-open_ports.ensures in
    ran-over w g.W.Writing.Sink g.W.Ticking.Clock g.W.Store.Disk c.args.service.now streams c.args.disk old new c.in-Ok-open_ports.ports.items
    c.serve_store-status.result opened.opened given.held (leaves-then w streams old c.open_ports.new.world new opened.others given.others given.nothing)
    c.deref.result.now (c.deref.ensures.value ∙ c.in-Ok.ensures.hosts) c.serve_store-status.ensures

pub returns-clause-open : goal.returns-clause-open
returns-clause-open g c = λ e.
    absurd (not-open g.W.Store.Disk (worked_of (clock_by g.W.Ticking.Clock) (sink_by g.W.Writing.Sink)) c.args.service.now c.deref.result.now c.args.disk
    c.in-Ok-open_ports.ports.items c.serve_store-status.result c.serve_store-status.ensures e)

pub returns-clause-others : goal.returns-clause-others
returns-clause-others g c =
    let given = c.give_back_ports.ensures in
    leaves-then g.W.World c.args.streams.now c.args.world.now c.open_ports.new.world c.give_back_ports.new.world c.in-Ok-open_ports.ensures.others given.others given.nothing

pub returns-clause-stay : goal.returns-clause-stay
returns-clause-stay g c = λ n was. c.give_back_ports.ensures.stay n (c.in-Ok-open_ports.ensures.stay n was)
