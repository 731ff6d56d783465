use Rattle.std.proofs.Common.{arith}
use Rattle.ps_wire.specs.Reading.{given_of, rest_of, source_of}
use Rattle.ps_mirror.proofs.Filling.{gave-both, on-and-on}
use Rattle.ps_mirror.proofs.fill.take_lines.Goals as goal

pub returns-in_err-take_next-clause-gave : goal.returns-in_err-take_next-clause-gave
returns-in_err-take_next-clause-gave g c =
    gave-both (g.S.Source.left (source_of c.args.lines.now)) (g.S.Source.left (source_of c.loop.lines)) (g.S.Source.left (source_of c.take_next.new.lines))
    (given_of c.args.lines.now) (given_of c.loop.lines) (given_of c.take_next.new.lines) c.loop.invariant.gave c.take_next.ensures.gave

pub returns-clause-gave : goal.returns-clause-gave
returns-clause-gave g c =
    gave-both (g.S.Source.left (source_of c.args.lines.now)) (g.S.Source.left (source_of c.loop.lines)) (g.S.Source.left (source_of c.take_next.new.lines))
    (given_of c.args.lines.now) (given_of c.loop.lines) (given_of c.take_next.new.lines) c.loop.invariant.gave c.take_next.ensures.gave

pub loop-preserved : goal.loop-preserved
loop-preserved g c = record {
  way =
      on-and-on (rest_of c.args.lines.now) (rest_of c.loop.lines) (rest_of c.take_next.new.lines) c.args.mirror.now c.loop.mirror c.take_next.new.mirror c.loop.invariant.way
      (c.in_ok-take_next.ensures.more c.if-branch.true);
  going = c.in_ok-take_next.ensures.going;
  gave =
      gave-both (g.S.Source.left (source_of c.args.lines.now)) (g.S.Source.left (source_of c.loop.lines)) (g.S.Source.left (source_of c.take_next.new.lines))
      (given_of c.args.lines.now) (given_of c.loop.lines) (given_of c.take_next.new.lines) c.loop.invariant.gave c.take_next.ensures.gave;
  later = omega (arith, c.loop.invariant.later, c.take_next.ensures.later);
}
