use Rattle.ps_types.specs.declared.entry.Entry.TheVariants.{Handed}
use Rattle.ps_model.specs.declared.steps.Step.TheVariants.{Record}
use Rattle.ps_hall_state_tests.proofs.Standing.{recorded}
use Rattle.ps_hall_state_tests.proofs.calls.record_first.Goals as goal

pub returns : goal.returns
returns g c =
    record { standing = recorded c.args.state.now c.record.new.self c.requires.standing (Handed c.args.to.now) (Record c.args.to.now) c.record.result c.record.ensures.ok c.record.ensures.err }
