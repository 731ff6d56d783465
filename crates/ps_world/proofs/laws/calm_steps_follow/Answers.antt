use Rattle.ps_world.proofs.Following.{run_follows}
use Rattle.ps_world.proofs.laws.calm_steps_follow.Goals as goal

pub returns : goal.returns
returns c = record { follows = λ core service w steps calm. run_follows core service w steps calm }
