use Rattle.std.proofs.Common.{Bool, Ok, subst, arith}
use Rattle.ps_wire.specs.Reading.{given_of, source_of}
use Rattle.ps_wire.proofs.Gaining.{gave_none}
use Rattle.ps_follow_run.specs.Lines.{NextSo, told}
use Rattle.ps_follow_run.proofs.Rising.{fresh-bound, gave-on}
use Rattle.ps_follow_run.proofs.lines.follow_each.Goals as goal

pub lines-init : goal.lines-init
lines-init g c = record {
  going = c.requires.fresh.going;
  begun = c.requires.begun;
  so = λ before s. s;
  gave = gave_none (g.S.Source.left (source_of c.args.lines.now)) (given_of c.args.lines.now);
  feed_later = omega arith;
  input_later = omega arith;
  sink_later = omega arith;
  bound = fresh-bound c.args.lines.now c.requires.fresh;
}

pub lines-preserved : goal.lines-preserved
lines-preserved g c =
    let i = c.lines.invariant in
    let n = c.follow_line.new in
    record {
      going = c.in-Ok-true.ensures.going;
      begun = c.in-Ok-true.ensures.begun;
      so = λ before s.
          subst (λ (b : Bool). NextSo c.args.host.now before (told g.F.Source g.S.Source g.K.Sink n.feed n.lines n.sink) n.taking c.lines.line (given_of n.lines) (Ok b)) c.in-Ok-true.field-0-test
          (c.in-Ok-true.ensures.so before (i.so before s));
      gave = gave-on (g.S.Source.left (source_of c.args.lines.now)) (g.S.Source.left (source_of c.lines.lines)) (g.S.Source.left (source_of n.lines)) (given_of c.args.lines.now)
          (given_of c.lines.lines) (given_of n.lines) i.gave c.follow_line.ensures.gave;
      feed_later = (let x = i.feed_later in let y = c.follow_line.ensures.feed_later in omega (arith, x, y));
      input_later = (let x = i.input_later in let y = c.follow_line.ensures.input_later in omega (arith, x, y));
      sink_later = (let x = i.sink_later in let y = c.follow_line.ensures.sink_later in omega (arith, x, y));
      bound = (let b = i.bound in let f = c.in-Ok-true.ensures.falls c.in-Ok-true.field-0-test in omega (arith, b, f));
    }

pub lines-smaller : goal.lines-smaller
lines-smaller g c = c.in-Ok-true.ensures.falls c.in-Ok-true.field-0-test

pub returns-in-Ok-false-clause-so : goal.returns-in-Ok-false-clause-so
returns-in-Ok-false-clause-so g c = λ before s.
    let n = c.follow_line.new in
    let r = subst (λ (b : Bool). NextSo c.args.host.now before (told g.F.Source g.S.Source g.K.Sink n.feed n.lines n.sink) n.taking c.lines.line (given_of n.lines) (Ok b)) c.in-Ok-false.field-0-test
    (c.in-Ok-false.ensures.so before (c.lines.invariant.so before s)) in
    (c.lines.line, r)

pub returns-in-Err-clause-so : goal.returns-in-Err-clause-so
returns-in-Err-clause-so g c = λ before s. c.in-Err.ensures.so before (c.lines.invariant.so before s)

pub returns-in-Ok-false-clause-gave : goal.returns-in-Ok-false-clause-gave
returns-in-Ok-false-clause-gave g c =
    gave-on (g.S.Source.left (source_of c.args.lines.now)) (g.S.Source.left (source_of c.lines.lines)) (g.S.Source.left (source_of c.follow_line.new.lines)) (given_of c.args.lines.now)
    (given_of c.lines.lines) (given_of c.follow_line.new.lines) c.lines.invariant.gave c.follow_line.ensures.gave

pub returns-in-Err-clause-gave : goal.returns-in-Err-clause-gave
returns-in-Err-clause-gave g c =
    gave-on (g.S.Source.left (source_of c.args.lines.now)) (g.S.Source.left (source_of c.lines.lines)) (g.S.Source.left (source_of c.follow_line.new.lines)) (given_of c.args.lines.now)
    (given_of c.lines.lines) (given_of c.follow_line.new.lines) c.lines.invariant.gave c.follow_line.ensures.gave
