use Rattle.ps_collision_tests.proofs.Keys.{in_group, kin_in_group}
use Rattle.ps_collision_tests.proofs.calls.keep.Goals as goal

pub keep-requires : goal.keep-requires
keep-requires c = record { asks = in_group c.args.group; kin = kin_in_group c.args.group }
