use Rattle.ps_hall_state.specs.Stand.{IsStanding}
use Rattle.ps_hall_state_tests.proofs.tests.runs.Given as goal

abbrev pub invariant-rows : goal.invariant-rows
invariant-rows g l = IsStanding l.state
