use Rattle.std.proofs.Common.{◌<◌, ◌≤◌, length, ap, sym, ◌∙◌, arith}
use Rattle.ps_base.specs.Rows.{keep_newest}
use Rattle.ps_mirror.specs.Copy.{each_one}
use Rattle.ps_mirror.proofs.Newest.{few-stay, oldest-goes}
use Rattle.ps_mirror.proofs.mirror.keep.Goals as goal

pub loop-items-preserved : goal.loop-items-preserved
loop-items-preserved c =
    let over : c.args.max < length c.loop-items.items.items = omega (arith, c.loop-items-test.true, c.len.ensures) in
    ap (keep_newest each_one c.args.max) c.remove.ensures.items ∙ oldest-goes c.args.max c.loop-items.items.items over ∙ c.loop-items.invariant

pub loop-items-preserved-in-loop-items : goal.loop-items-preserved-in-loop-items
loop-items-preserved-in-loop-items c =
    let over : c.args.max < length c.loop-items.items.items = omega (arith, c.loop-items-test.true, c.len.ensures) in
    ap (keep_newest each_one c.args.max) c.remove.ensures.items ∙ oldest-goes c.args.max c.loop-items.items.items over ∙ c.loop-items.invariant

pub returns : goal.returns
returns c =
    let few : length c.loop-items.items.items ≤ c.args.max = omega (arith, c.loop-items-test.false, c.len.ensures) in
    record { items = sym (few-stay c.args.max c.loop-items.items.items few) ∙ c.loop-items.invariant }
