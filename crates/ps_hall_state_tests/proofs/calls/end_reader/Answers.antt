use Rattle.std.proofs.Common.{[], ◌∷◌}
use Rattle.ps_model.specs.declared.steps.Role.TheVariants.{Reader}
use Rattle.ps_model.specs.declared.steps.Step.TheVariants.{Ended}
use Rattle.ps_hall_state.proofs.OneRow.{there}
use Rattle.ps_hall_state_tests.proofs.Standing.{goes_on}
use Rattle.ps_hall_state_tests.proofs.calls.end_reader.Goals as goal

pub returns : goal.returns
returns c =
    let t = there c.args.state.now.rows.items 0 c.requires.here in
    record { standing = goes_on c.args.state.now c.reader_ended.new.self c.requires.standing (Ended t.0.host Reader ∷ []) (c.reader_ended.ensures.goes t.0 t.1) }
