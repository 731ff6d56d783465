use Rattle.ps_access.specs.Tables.{book_of}
use Rattle.ps_events.proofs.Wanting.{lasts-more}
use Rattle.ps_events.proofs.wanted.add_lasts_at.Goals as goal

pub loop-place-preserved : goal.loop-place-preserved
loop-place-preserved c =
    lasts-more c.args.who.now (book_of c.args.after.now) c.args.places.now c.args.after.now.nodes.rows c.loop-place.place-index c.args.told.now.items c.loop-place.told.items
    c.add_last_at.new.told.items c.loop-place-test.true c.in_ok-add_last_at.ensures c.loop-place.invariant
