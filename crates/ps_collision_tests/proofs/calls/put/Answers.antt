use Rattle.std.proofs.Common.{refl}
use Rattle.ps_collision_tests.proofs.Keys.{of, kin}
use Rattle.ps_collision_tests.proofs.calls.put.Goals as goal

pub put-requires : goal.put-requires
put-requires c = record { asks = of c.args.row; alike = λ seed index old h. refl; kin = λ old h. kin c.args.row old h; room = c.requires.room }
