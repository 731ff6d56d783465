use Rattle.ps_hall_state_tests.proofs.Standing.{settled}
use Rattle.ps_hall_state_tests.proofs.calls.settle_all.Goals as goal

pub returns : goal.returns
returns c = record { standing = settled c.args.state.now c.settle.new.self c.requires.standing c.count-count.result c.count-count.ensures.count c.settle.ensures.goes }
