use Rattle.ps_collision_tests.proofs.Keys.{in_group, kin_in_group}
use Rattle.ps_collision_tests.proofs.calls.count.Goals as goal

pub count_node-requires : goal.count_node-requires
count_node-requires c = record { asks = in_group c.args.group; kin = kin_in_group c.args.group }
