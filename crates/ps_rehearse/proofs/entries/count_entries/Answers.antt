use Rattle.ps_rehearse.proofs.Making.{of-list}
use Rattle.ps_rehearse.proofs.entries.count_entries.Goals as goal

pub returns-in-Ok : goal.returns-in-Ok
returns-in-Ok g c = λ tells es is.
    of-list (g.D.Disk.seen c.args.disk) c.in-Ok.placed.items c.deref.result.now es c.count_behind.result (c.in-Ok.ensures.entries tells) c.deref.ensures.value is c.count_behind.ensures
