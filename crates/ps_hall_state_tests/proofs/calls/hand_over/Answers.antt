use Rattle.std.proofs.Common.{[]}
use Rattle.ps_hall_state_tests.proofs.Standing.{goes_on}
use Rattle.ps_hall_state_tests.proofs.calls.hand_over.Goals as goal

pub returns-in-Some : goal.returns-in-Some
returns-in-Some c = record { standing = goes_on c.args.state.now c.hand_over.new.self c.requires.standing [] c.hand_over.ensures.goes }

pub returns-in-None : goal.returns-in-None
returns-in-None c = record { standing = goes_on c.args.state.now c.hand_over.new.self c.requires.standing [] c.hand_over.ensures.goes }
