use Rattle.std.proofs.Common.{arith}
use Rattle.ps_hall_state.proofs.Sizes.{handed-size}
use Rattle.ps_hall_state.proofs.adding.size_of.Goals as goal

pub returns-in_ok-text-in-Handed-clause-none : goal.returns-in_ok-text-in-Handed-clause-none
returns-in_ok-text-in-Handed-clause-none c = λ none.
    let l = c.short-in-Handed.ensures.none none in
    let s = handed-size c.args.entry.now c.in-Handed.to c.in_ok-text-in-Handed.field-0 c.in-Handed.is c.in_ok-text-in-Handed.ensures in
    omega (arith, l, s)
