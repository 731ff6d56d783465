use Rattle.std.proofs.Common.{refl, arith}
use Rattle.ps_compact.proofs.Counted.{made-more}
use Rattle.ps_compact.proofs.counters.are_made_few.Goals as goal

pub rows-preserved : goal.rows-preserved
rows-preserved c = made-more c.places-slot-items.result.now c.rows.slot-index c.slot-item.result (omega arith) c.slot-item.is c.rows.invariant (c.if-not-is_few.ensures refl)
