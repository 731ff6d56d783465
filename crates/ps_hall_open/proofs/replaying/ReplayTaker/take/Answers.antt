use Rattle.ps_hall_open.proofs.replaying.ReplayTaker.take.Goals as goal

pub take_placed-requires-sync-R : goal.take_placed-requires-sync-R
take_placed-requires-sync-R g c κs within = let s = c.requires.stands in record { shared = s.2.0.shared }
