use Rattle.std.proofs.Common.{◌+◌, ◌<◌, ◌≤◌, arith, length, subst}
use Rattle.std.specs.Prelude.{get_or}
use Rattle.ps_nodes.proofs.Cuts.{below-too, beyond-too}
use Rattle.ps_nodes.proofs.gaps.cut_of.Goals as goal

pub is_before-requires : goal.is_before-requires
is_before-requires c =
    let inside : c.middle-mid.result < length c.args.gaps.now = omega (arith, c.middle-mid.ensures.high, c.loop-low.invariant.within) in
    let far = c.requires.rising 0 c.middle-mid.result (omega arith) inside in
    record { within = omega (arith, far, c.slack.ensures.few) }

pub loop-low-preserved-then-is_before : goal.loop-low-preserved-then-is_before
loop-low-preserved-then-is_before c =
    let mid = c.middle-mid.result in
    let inside : mid < length c.args.gaps.now = omega (arith, c.middle-mid.ensures.high, c.loop-low.invariant.within) in
    let here = subst (λ s. get_or c.args.gaps.now mid 0 < c.args.bound + s) c.slack.ensures.slack (c.is_before.ensures.yes c.if-is_before.true) in
    record {
      order = omega (arith, c.middle-mid.ensures.high);
      within = c.loop-low.invariant.within;
      before = λ i l. below-too c.args.ranked c.args.gaps.now c.args.bound i mid c.requires.rising (omega (arith, l)) inside here;
      after = c.loop-low.invariant.after;
    }

pub loop-low-preserved : goal.loop-low-preserved
loop-low-preserved c =
    let mid = c.middle-mid.result in
    let here = subst (λ s. c.args.bound + s ≤ get_or c.args.gaps.now mid 0) c.slack.ensures.slack (c.is_before.ensures.no c.if-is_before.false) in
    record {
      order = c.middle-mid.ensures.low;
      within = omega (arith, c.middle-mid.ensures.high, c.loop-low.invariant.within);
      before = c.loop-low.invariant.before;
      after = λ i l m. beyond-too c.args.ranked c.args.gaps.now c.args.bound i mid c.requires.rising l m here;
    }
