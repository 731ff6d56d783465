use Rattle.std.proofs.Common.{◌∙◌}
use Rattle.ps_status.proofs.Asking.{asked-before, asked-first}
use Rattle.ps_serve.proofs.Stored.{runs}
use Rattle.ps_serve.proofs.serving.serve.Goals as goal

pub returns-in-Err-clause-asked : goal.returns-in-Err-clause-asked
returns-in-Err-clause-asked g c = asked-first _ _ _ _ c.in-Err.why c.in-Err.ensures.asked

pub returns-clause-runs : goal.returns-clause-runs
returns-clause-runs g c =
    let opened = c.in-Ok.ensures in
    let given = c.give_back_disk.ensures in
    let served = c.serve_over-status.ensures in
    runs g.W.World g.W.Store.Disk (record { service = c.args.service.now; store = c.args.store.now; streams = c.args.streams.now })
    c.args.world.now c.open_disk.new.self c.serve_over-status.new.world c.give_back_disk.new.self c.in-Ok.disk c.serve_over-status.result.1
    opened.object opened.left given.held given.left
    (record { same_sources = opened.sources; same_sinks = opened.sinks; same_clocks = opened.clocks })
    (record { same_sources = given.sources; same_sinks = given.sinks; same_clocks = given.clocks })
    (λ n other. given.stores n other ∙ (served.others.stores n ∙ opened.stores n other))
    (λ n other t x. (
      λ was. (given.lefts n other t x).0 ((served.others.lefts n t x).0 ((opened.lefts n other t x).0 was)),
      λ is. (opened.lefts n other t x).1 ((served.others.lefts n t x).1 ((given.lefts n other t x).1 is)),
    ))
    c.serve_over-status.result.0 served.ran

pub returns-clause-asked : goal.returns-clause-asked
returns-clause-asked g c = asked-before _ _ _ _ _ _ c.in-Ok.ensures.asked c.serve_over-status.ensures.asked c.give_back_disk.ensures.asked
