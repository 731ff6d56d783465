use Rattle.ps_book_laws.proofs.Timely.{entry-timely}
use Rattle.ps_hall_open.proofs.replaying.take_one.Goals as goal

pub prepare_accepted-requires-clause-timely : goal.prepare_accepted-requires-clause-timely
prepare_accepted-requires-clause-timely g c κs within = entry-timely c.args.entry c.requires.entry
