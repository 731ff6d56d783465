use Rattle.std.proofs.Common.{arith}
use Rattle.ps_journal.proofs.Readings.{stand_at}
use Rattle.ps_journal.proofs.pieces.reach.Goals as goal

pub returns-in-Ok-clause-held : goal.returns-in-Ok-clause-held
returns-in-Ok-clause-held g c =
    let held = c.requires.held in
    record {
      from = omega arith;
      within = omega arith;
      ends = omega (arith, c.in-Ok.ensures.size, held.from, held.within, held.ends);
      stands = λ t. stand_at (g.D.Disk.seen c.args.disk.now) c.args.at _ c.in-Ok.bytes.items (c.in-Ok.ensures.bytes t);
    }
