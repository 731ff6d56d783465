use Rattle.std.proofs.Common.{refl, []}
use Rattle.std.specs.Prelude.{OnErr, Result, Ok, Err}
use Rattle.ps_hall_state.specs.declared.state.State.{State}
use Rattle.ps_hall_state.specs.Steps.{Goes}
use Rattle.ps_hall_state.proofs.Flushed.{same_ok}
use Rattle.ps_hall_state.proofs.OneRow.{there}
use Rattle.ps_hall_state.proofs.Telling.{emit_ok}
use Rattle.ps_hall_state.proofs.state.State.tell.Goals as goal

told : {T E P : Type 0} (result : Result T E) → P → OnErr result P
told (Ok t) p = tt
told (Err e) p = p

pub returns-in_err-hold-clause-err : goal.returns-in_err-hold-clause-err
returns-in_err-hold-clause-err c =
    let v = c.args.self.now in
    let now : State = record v { queues = c.hold.new.self } in
    let goes : Goes v now [] = λ service some w is.
    same_ok v now w (record {
      state = refl;
      queues = c.hold.ensures.waiting;
      held = c.in_err-hold.ensures.err;
      rows = refl;
      batch = refl;
      steps = refl;
      rest = record
          { count = refl; length_same = refl; broken = refl; flushed = refl; durable_same = refl; limits = refl };
    }) is in
    told c.from_residual.result goes

pub returns-clause-ok : goal.returns-clause-ok
returns-clause-ok c =
    let t = there c.args.self.now.rows.items c.args._at c.requires.here in
    emit_ok c.args.self.now _ c.args._at t.0 c.args.to c.args._line.now t.1 (c.requires.landed t.0 t.1) (c.requires.shown t.0 t.1) refl c.hold.ensures.waiting c.in_ok-hold.ensures.held refl refl
    (record { count = refl; length_same = refl; broken = refl; flushed = refl; durable_same = refl; limits = refl }) refl
