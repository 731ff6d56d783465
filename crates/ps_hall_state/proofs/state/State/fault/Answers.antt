use Rattle.std.proofs.Common.{refl}
use Rattle.ps_hall_state.proofs.Flushed.{fault_ok}
use Rattle.ps_hall_state.proofs.state.State.fault.Goals as goal

pub returns-clause-goes : goal.returns-clause-goes
returns-clause-goes c = λ service some w is. fault_ok service some c.args.self.now _ w is
    (record { state = refl; queues = refl; held = refl; rows = refl; batch = refl; count = refl; length_same = refl; limits = refl }) refl refl refl refl
