use Rattle.std.proofs.Common.{◌<◌, length, arith}
use Rattle.ps_access.specs.Tables.{book_of}
use Rattle.ps_fanout.specs.Hearing.{subscribers}
use Rattle.ps_fanout.proofs.More.{spread-more}
use Rattle.ps_fanout.proofs.asked.add_above.Goals as goal

pub loop-collection-preserved : goal.loop-collection-preserved
loop-collection-preserved c =
    let less : c.loop-collection.collection-index < length c.args.above.now = omega arith in
    spread-more c.args.above.now c.loop-collection.collection-index c.collection-item.result less c.collection-item.is (subscribers (book_of c.args.tables.now)) c.args.whos.now.items
    c.loop-collection.whos.items
    c.add_subscribers.new.whos.items c.loop-collection.invariant c.in_ok-add_subscribers.ensures
