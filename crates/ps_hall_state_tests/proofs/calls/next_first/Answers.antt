use Rattle.ps_hall_state.proofs.OneRow.{there}
use Rattle.ps_hall_state_tests.proofs.Standing.{told}
use Rattle.ps_hall_state_tests.proofs.calls.next_first.Goals as goal

pub returns : goal.returns
returns c =
    let t = there c.args.state.now.rows.items 0 c.requires.here in
    record { standing = told c.args.state.now c.next.new.self c.requires.standing t.0.host c.next.result (c.next.ensures.ok t.0 t.1) c.next.ensures.err }
