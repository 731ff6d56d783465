use Rattle.std.proofs.Common.{refl, ap, ◌+◌}
use Rattle.ps_hall_state.specs.declared.state.State.{State}
use Rattle.ps_hall_state.proofs.Flushed.{over_ok}
use Rattle.ps_hall_state.proofs.state.State.hand_over.Goals as goal

pub returns-clause-goes : goal.returns-clause-goes
returns-clause-goes c = λ service some w is.
    let v = c.args.self.now in
    let now : State = record v { batch = c.replace.new.dest; count = c.count-self.result; length = v.length + c.frame_bytes.result } in
    over_ok v now w is refl refl refl c.replace.ensures.after c.count-self.ensures.count (ap (λ n. v.length + n) c.frame_bytes.ensures.value) refl refl refl refl refl
