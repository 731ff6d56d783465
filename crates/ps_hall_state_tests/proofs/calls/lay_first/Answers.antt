use Rattle.ps_hall_state.proofs.OneRow.{there}
use Rattle.ps_hall_state_tests.proofs.Standing.{laid}
use Rattle.ps_hall_state_tests.proofs.calls.lay_first.Goals as goal

pub returns : goal.returns
returns g c =
    let t = there c.args.state.now.rows.items 0 c.requires.here in
    record { standing = laid c.args.state.now c.lay.new.self c.requires.standing t.0.host c.args.arrival.now c.lay.result (c.lay.ensures.ok t.0 t.1) (c.lay.ensures.err t.0 t.1) }
