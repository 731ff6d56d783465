use Rattle.ps_types.specs.declared.entry.Entry.TheVariants as entry
use Rattle.ps_model.specs.declared.steps.Step.TheVariants as step
use Rattle.ps_hall_state.proofs.OneRow.{there}
use Rattle.ps_hall_state_tests.proofs.Standing.{recorded}
use Rattle.ps_hall_state_tests.proofs.calls.gone_first.Goals as goal

pub returns : goal.returns
returns g c =
    let t = there c.args.state.now.rows.items 0 c.requires.here in
    record {
      standing = recorded c.args.state.now c.gone.new.self c.requires.standing (entry.Gone t.0.host) (step.Gone t.0.host) c.gone.result (c.gone.ensures.ok t.0 t.1)
          (c.gone.ensures.err t.0 t.1);
    }
