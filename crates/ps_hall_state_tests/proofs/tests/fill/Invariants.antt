use Rattle.ps_hall_state.specs.Stand.{IsStanding}
use Rattle.ps_hall_state_tests.proofs.tests.fill.Given as goal

abbrev pub invariant-lines : goal.invariant-lines
invariant-lines g l = IsStanding l.state
