use Rattle.ps_wire.specs.Reading.{given_of}
use Rattle.ps_follow_run.specs.Lines.{told}
use Rattle.ps_follow_run.proofs.Steps.{piece-ends, so-piece}
use Rattle.ps_follow_run.proofs.lines.follow_all.Goals as goal

pub returns-in-Ok-clause-so : goal.returns-in-Ok-clause-so
returns-in-Ok-clause-so g c = λ before s.
    let a = c.in_default.ensures.so before s in
    let n = told g.F.Source g.S.Source g.K.Sink c.follow_each.new.feed c.follow_each.new.lines c.follow_each.new.sink in
    let p = c.in-Ok.ensures.piece a.1.0.feed a.1.0.taken in
    (a.0, (so-piece c.args.host.now before n c.follow_each.new.taking a.0 a.1.0 c.take_rest.new.taking (g.F.Source.left c.take_rest.new.feed) p, a.1.1))

pub returns-in-Err-take_rest-clause-so : goal.returns-in-Err-take_rest-clause-so
returns-in-Err-take_rest-clause-so g c = λ before s.
    let a = c.in_default.ensures.so before s in
    let n = told g.F.Source g.S.Source g.K.Sink c.follow_each.new.feed c.follow_each.new.lines c.follow_each.new.sink in
    piece-ends c.args.host.now before n c.follow_each.new.taking a.0 a.1.0 (g.F.Source.left c.take_rest.new.feed) (given_of c.follow_each.new.lines) c.in-Err-take_rest.why
    (c.in-Err-take_rest.ensures.piece a.1.0.feed a.1.0.taken)
