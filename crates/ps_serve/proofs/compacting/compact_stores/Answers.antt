use Rattle.std.proofs.Common.{◌≤◌, ◌∙◌, ℕ, sym, subst, arith}
use Rattle.ps_status.proofs.Asking.{asked-before, asked-first}
use Rattle.ps_serve.proofs.Pairs.{both, others}
use Rattle.ps_status.proofs.Counts.{since-then}
use Rattle.ps_serve.proofs.compacting.compact_stores.Goals as goal

pub returns-in-Err-clause-asked : goal.returns-in-Err-clause-asked
returns-in-Err-clause-asked g c = asked-first _ _ _ _ c.in-Err.why c.in-Err.ensures.asked

pub returns-clause-compacts : goal.returns-clause-compacts
returns-clause-compacts g c =
    let opened = c.in-Ok.ensures in
    let given = c.give_back_disk.ensures in
    let made = c.compact_into-status.ensures in
    both g.W.World g.W.Store.Disk (record { store = c.args.store.now; new = c.args.new.now }) c.requires.well.apart
    c.args.world.now c.open_disk.new.self c.compact_into-status.new.world c.give_back_disk.new.self c.in-Ok.disk c.compact_into-status.result.1
    opened.object opened.left given.held given.left
    (record { same_sources = opened.sources; same_sinks = opened.sinks; same_clocks = opened.clocks }) made.same
    (record { same_sources = given.sources; same_sinks = given.sinks; same_clocks = given.clocks })
    opened.stores given.stores opened.lefts given.lefts c.compact_into-status.result.0 made.compacts

pub returns-clause-others : goal.returns-clause-others
returns-clause-others g c =
    let opened = c.in-Ok.ensures in
    let given = c.give_back_disk.ensures in
    let made = c.compact_into-status.ensures in
    others g.W.World g.W.Store.Disk (record { store = c.args.store.now; new = c.args.new.now }) c.requires.well.apart
    c.args.world.now c.open_disk.new.self c.compact_into-status.new.world c.give_back_disk.new.self c.in-Ok.disk c.compact_into-status.result.1
    opened.object opened.left given.held given.left
    (record { same_sources = opened.sources; same_sinks = opened.sinks; same_clocks = opened.clocks }) made.same
    (record { same_sources = given.sources; same_sinks = given.sinks; same_clocks = given.clocks })
    opened.stores given.stores opened.lefts given.lefts made.stores made.lefts

pub returns-clause-asked : goal.returns-clause-asked
returns-clause-asked g c = asked-before _ _ _ _ _ _ c.in-Ok.ensures.asked c.compact_into-status.ensures.asked c.give_back_disk.ensures.asked

pub returns-clause-since : goal.returns-clause-since
returns-clause-since g c =
    let w = g.W.World in
    let made = c.compact_into-status.ensures in
    let given = c.give_back_disk.ensures in
    let fewer : w.faults c.args.world.now ≤ w.faults c.open_disk.new.self = c.in-Ok.ensures.cause.later in
    let was : w.faults c.args.world.now ≤ w.faults c.give_back_disk.new.self = omega (arith, fewer, made.later, given.faults) in
    let is : (w.last_opening c.give_back_disk.new.self).1 ≤ w.faults c.give_back_disk.new.self =
    subst (λ (l : ℕ × ℕ). l.1 ≤ w.faults c.give_back_disk.new.self) (sym given.last) (subst (λ (n : ℕ). (w.last_opening c.compact_into-status.new.world).1 ≤ n) (sym given.faults) made.since) in
    since-then c.compact_into-status.result.0 (w.faults c.args.world.now) (w.last_opening c.give_back_disk.new.self) (w.faults c.give_back_disk.new.self) was is
