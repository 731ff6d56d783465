use Rattle.std.proofs.Common.{◌++◌, ◌∷◌, [], Err, Option, ap, subst}
use Rattle.std.specs.Prelude.{IfNone, IfSome}
use Rattle.ps_types.specs.declared.entry.Arrival.{Arrival}
use Rattle.ps_wire.specs.Reading.{given_of, rest_of}
use Rattle.ps_follow_run.specs.Following.{CameOf}
use Rattle.ps_follow_run.specs.Lines.{IsEnd, told}
use Rattle.ps_follow_run.proofs.Steps.{input-ends, line-ends, line-more, none-left, piece-ends, ready, so-piece, to_feed}
use Rattle.ps_follow_run.proofs.lines.follow_line.Goals as goal

pub returns-in-Err-clause-so : goal.returns-in-Err-clause-so
returns-in-Err-clause-so g c = λ before s.
    piece-ends c.args.host.now before (told g.F.Source g.S.Source g.K.Sink c.args.feed.now c.args.lines.now c.args.sink.now) c.args.taking.now c.args.line s (g.F.Source.left c.take_piece.new.feed)
    (given_of c.args.lines.now) c.in-Err.why
    (c.in-Err.ensures.piece s.feed s.taken)

pub returns-in-Err-next_arrival-clause-so : goal.returns-in-Err-next_arrival-clause-so
returns-in-Err-next_arrival-clause-so g c = λ before s.
    let host = c.args.host.now in
    let n = told g.F.Source g.S.Source g.K.Sink c.args.feed.now c.args.lines.now c.args.sink.now in
    let u = c.take_piece.new.self in
    let left = g.F.Source.left c.take_piece.new.feed in
    let more = so-piece host before n c.args.taking.now c.args.line s u left (c.in_default.ensures.piece s.feed s.taken) in
    let lines = c.next_arrival.new.lines in
    input-ends host before (to_feed n left) u c.args.line more (given_of lines) (rest_of lines) c.in-Err-next_arrival.why c.in-Err-next_arrival.ensures.only
    (λ e. c.in-Err-next_arrival.ensures.long (ap Err e))

pub returns-in-Ok-None-clause-so : goal.returns-in-Ok-None-clause-so
returns-in-Ok-None-clause-so g c = λ before s.
    let host = c.args.host.now in
    let n = told g.F.Source g.S.Source g.K.Sink c.args.feed.now c.args.lines.now c.args.sink.now in
    let u = c.take_piece.new.self in
    let left = g.F.Source.left c.take_piece.new.feed in
    let more = so-piece host before n c.args.taking.now c.args.line s u left (c.in_default.ensures.piece s.feed s.taken) in
    let now = rest_of c.next_arrival.new.lines in
    let came = subst (λ (o : Option Arrival). IfNone o (CameOf (rest_of c.args.lines.now) now [])) c.in-Ok-None.field-0-is c.in-Ok-None.ensures.none in
    let end = subst (λ (o : Option Arrival). IfNone o (IsEnd now)) c.in-Ok-None.field-0-is c.in-Ok-None.ensures.ended in
    (none-left host before (to_feed n left) u c.args.line more now came, end)

pub returns-in-Ok-None-clause-begun : goal.returns-in-Ok-None-clause-begun
returns-in-Ok-None-clause-begun g c =
    let b = c.requires.begun in
    let p = c.in_default.ensures.piece b.0 b.1 in
    (b.0 ++ p.piece, p.taken)

pub returns-in-Ok-clause-so : goal.returns-in-Ok-clause-so
returns-in-Ok-clause-so g c = λ before s.
    let host = c.args.host.now in
    let n = told g.F.Source g.S.Source g.K.Sink c.args.feed.now c.args.lines.now c.args.sink.now in
    let t = c.args.taking.now in
    let u = c.take_piece.new.self in
    let left = g.F.Source.left c.take_piece.new.feed in
    let p = c.in_default.ensures.piece s.feed s.taken in
    let more = so-piece host before n t c.args.line s u left p in
    let now = rest_of c.next_arrival.new.lines in
    let came = subst (λ (o : Option Arrival). IfSome o (λ a. CameOf (rest_of c.args.lines.now) now (a ∷ []))) c.in-Ok-Some.field-0-is c.in-Ok-Some.ensures.some in
    line-more host before (to_feed n left) u c.args.line more c.in-Ok-Some.arrival now came (ready host before n t c.args.line s u left p) (g.K.Sink.written c.answer_line.new.sink)
    (c.in-Ok.ensures.whole p.taken.entries p.taken.is.stands)

pub returns-in-Ok-clause-begun : goal.returns-in-Ok-clause-begun
returns-in-Ok-clause-begun g c =
    let b = c.requires.begun in
    let p = c.in_default.ensures.piece b.0 b.1 in
    (b.0 ++ p.piece, p.taken)

pub returns-clause-so : goal.returns-clause-so
returns-clause-so g c = λ before s.
    let host = c.args.host.now in
    let n = told g.F.Source g.S.Source g.K.Sink c.args.feed.now c.args.lines.now c.args.sink.now in
    let t = c.args.taking.now in
    let u = c.take_piece.new.self in
    let left = g.F.Source.left c.take_piece.new.feed in
    let p = c.in_default.ensures.piece s.feed s.taken in
    let more = so-piece host before n t c.args.line s u left p in
    let now = rest_of c.next_arrival.new.lines in
    let came = subst (λ (o : Option Arrival). IfSome o (λ a. CameOf (rest_of c.args.lines.now) now (a ∷ []))) c.in-Ok-Some.field-0-is c.in-Ok-Some.ensures.some in
    line-ends host before (to_feed n left) u c.args.line more c.in-Ok-Some.arrival now came (ready host before n t c.args.line s u left p) (g.K.Sink.written c.answer_line.new.sink)
    (given_of c.next_arrival.new.lines) c.in-Err-answer_line.why
    c.in-Err-answer_line.ensures.only (λ e. c.in-Err-answer_line.ensures.front p.taken.entries p.taken.is.stands (ap Err e)) (λ e. c.in-Err-answer_line.ensures.none (ap Err e))
