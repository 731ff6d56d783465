use Rattle.std.proofs.Common.{refl}
use Rattle.ps_hall_state_tests.proofs.Beginning.{opened_stands}
use Rattle.ps_hall_state_tests.proofs.opened.state_of.Goals as goal

pub returns : goal.returns
returns c = opened_stands _ c.requires.booted c.requires.rows c.requires.queues c.requires.held refl refl refl refl refl refl refl c.requires.limits.0 c.requires.limits.1
