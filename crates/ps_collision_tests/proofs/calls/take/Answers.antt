use Rattle.ps_collision_tests.proofs.Keys.{of}
use Rattle.ps_collision_tests.proofs.calls.take.Goals as goal

pub take_away-requires : goal.take_away-requires
take_away-requires c = record { asks = of c.args.row.now }
