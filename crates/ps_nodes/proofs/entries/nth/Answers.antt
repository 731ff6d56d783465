use Rattle.std.proofs.Common.{◌≡◌, length, ap, arith, sym, ◌∙◌}
use Rattle.ps_nodes.specs.Gaps.{empties}
use Rattle.ps_nodes.proofs.Cuts.{gaps-count, gaps-rising, nth-cut}
use Rattle.ps_nodes.proofs.entries.nth.Goals as goal

pub cut_of-requires : goal.cut_of-requires
cut_of-requires c = record { rising = gaps-rising c.args.slots.now.rows c.args.gaps.now c.requires.gaps }

pub overflow_add-at-2 : goal.overflow_add-at-2
overflow_add-at-2 c =
    let all = gaps-count 0 c.args.slots.now.rows in
    let gaps : length c.args.gaps.now ≡ length (empties 0 c.args.slots.now.rows) = ap length c.requires.gaps in
    let few = c.cut_of.ensures.cut.within in
    let stand = c.standing.ensures.standing in
    let places = c.len-places.ensures.len in
    let small = c.len-places.type_inv in
    let before = c.if-at-standing.false in
    omega (arith, all, gaps, few, stand, places, small, before)

pub returns : goal.returns
returns c = c.get.ensures.row ∙ sym (nth-cut c.args.slots.now.rows c.args.gaps.now c.args.at c.cut_of.result c.requires.gaps c.cut_of.ensures.cut)
