use Rattle.std.proofs.Common.{[], ◌∷◌}
use Rattle.ps_model.specs.declared.steps.Step.TheVariants.{Broken}
use Rattle.ps_hall_state_tests.proofs.Standing.{goes_on}
use Rattle.ps_hall_state_tests.proofs.calls.fault.Goals as goal

pub returns : goal.returns
returns c = record { standing = goes_on c.args.state.now c.fault.new.self c.requires.standing (Broken ∷ []) c.fault.ensures.goes }
