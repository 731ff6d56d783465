use Rattle.std.proofs.Common.{arith}
use Rattle.ps_compact_export.proofs.Rows.{place-more}
use Rattle.ps_compact_export.proofs.adding.add_rows.Goals as goal

pub loop-place-preserved : goal.loop-place-preserved
loop-place-preserved g c =
    place-more g.R.Rowed.kind c.args.places.now c.loop-place.place-index c.place-item.result c.args.entries.now.items c.loop-place.entries.items _ (omega arith) c.place-item.is
    c.loop-place.invariant c.in_ok-add_row.ensures
