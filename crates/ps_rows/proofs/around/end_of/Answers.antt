use Rattle.std.proofs.Common.{◌≡◌, ◌+◌, ◌-◌, true, sym, ◌∙◌, arith, rules}
use Rattle.ps_rows.proofs.Endings.{ending-skip, ending-more}
use Rattle.ps_rows.proofs.around.end_of.Goals as goal

pub loop-at-preserved-in_default : goal.loop-at-preserved-in_default
loop-at-preserved-in_default g c =
    let some = c.loop-at-test.true in
    let back : (c.loop-at.at - 1) + 1 ≡ c.loop-at.at = omega (arith, some) in
    ending-skip (g.A.Ask.passes c.args.ask.now) c.args.slots.now.rows c.loop-at.at (c.loop-at.at - 1) c.loop-at.tail back (sym c.in_default.ensures.row) c.loop-at.invariant

pub loop-at-preserved : goal.loop-at-preserved
loop-at-preserved g c =
    let some = c.loop-at-test.true in
    let back : (c.loop-at.at - 1) + 1 ≡ c.loop-at.at = omega (arith, some) in
    let passes : g.A.Ask.passes c.args.ask.now c.in-Some.row.now ≡ true = sym c.passes.ensures ∙ c.if-not-passes.false in
    ending-more (g.A.Ask.passes c.args.ask.now) c.args.slots.now.rows c.loop-at.at (c.loop-at.at - 1) c.loop-at.tail c.in-Some.row.now back (sym c.in-Some.ensures.row) passes c.loop-at.invariant
