use Rattle.std.proofs.Common.{Result, subst, arith}
use Rattle.std.specs.Prelude.{Bool, IfOk}
use Rattle.ps_base.specs.declared.refusals.Memory.{Memory}
use Rattle.ps_hall_open.specs.Replayed.{IsTaken}
use Rattle.ps_hall_open.proofs.Replays.{taken_more, taken_none}
use Rattle.ps_hall_open.proofs.replaying.take_placed.Goals as goal

pub returns-clause-took : goal.returns-clause-took
returns-clause-took g c placed so_far is =
    let old = c.args.rebuilt.now in
    let new = c.take_one.new.rebuilt in
    taken_more placed c.args.one old new so_far c.requires.entry (omega (arith, c.count.ensures.count))
    (subst (λ (r : Result Bool Memory). IfOk r (IsTaken old new c.args.one.entry)) is c.take_one.ensures.taken)

pub returns-clause-refuses : goal.returns-clause-refuses
returns-clause-refuses g c placed so_far is =
    let old = c.args.rebuilt.now in
    let new = c.take_one.new.rebuilt in
    taken_none placed c.args.one old new so_far (subst (λ (r : Result Bool Memory). IfOk r (IsTaken old new c.args.one.entry)) is c.take_one.ensures.taken)
