use Rattle.ps_hall_flush.proofs.Homing.{home_steps}
use Rattle.ps_hall_flush.proofs.home.HomeAnnals.length.Goals as goal

pub returns : goal.returns
returns g c = λ log is. home_steps g.B.Opening.origin c.args.self.now.state log is
