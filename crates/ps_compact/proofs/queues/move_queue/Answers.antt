use Rattle.std.proofs.Common.{arith}
use Rattle.std.proofs.lemmas.List.Sums.{length-filter}
use Rattle.ps_outbox.specs.Boxes.{is_to}
use Rattle.ps_compact.proofs.Waiting.{first-ready, moved-all, moved-more}
use Rattle.ps_compact.proofs.queues.move_queue.Goals as goal

pub move_first-requires : goal.move_first-requires
move_first-requires c = record { ready = first-ready c.args.count c.args.who.now c.notices.at c.args.queues.now.waiting c.notices.queues.waiting c.requires.ready c.notices.invariant.left }

pub notices-preserved : goal.notices-preserved
notices-preserved c =
    let done = c.in_ok-move_first.ensures in
    moved-more c.args.who.now c.notices.at c.args.queues.now.waiting c.notices.queues.waiting c.move_first.new.queues.waiting c.args.entries.now.items c.notices.entries.items
    c.move_first.new.entries.items c.notices.invariant done.entries done.queues

pub returns-clause-entries : goal.returns-clause-entries
returns-clause-entries c =
    let who = c.args.who.now in
    let old = c.args.queues.now.waiting in
    moved-all who c.notices.at old c.notices.queues.waiting c.args.entries.now.items c.notices.entries.items (omega (arith, length-filter (is_to who) old, c.pending-at-end.ensures))
    c.notices.invariant
