use Rattle.std.proofs.Common.{refl, arith}
use Rattle.ps_hall_state.proofs.Flushed.{settles_before, settles_later}
use Rattle.ps_hall_state.proofs.state.State.settle.Goals as goal

pub returns-then-self-upto-clause-goes : goal.returns-then-self-upto-clause-goes
returns-then-self-upto-clause-goes c = λ service some w is high few.
    settles_later service some c.args.self.now _ w c.args.upto c.args.count is high few c.if-self-upto.true
    (record { state = refl; queues = refl; held = refl; rows = refl; batch = refl; count = refl; length_same = refl; limits = refl }) refl refl refl refl

pub returns-clause-goes : goal.returns-clause-goes
returns-clause-goes c = λ service some w is high few.
    settles_before service some c.args.self.now _ w c.args.upto is (let l = c.if-self-upto.false in omega (arith, l))
    (record { state = refl; queues = refl; held = refl; rows = refl; batch = refl; count = refl; length_same = refl; limits = refl }) refl refl refl refl
