use Rattle.std.proofs.Common.{Err, Some, ap, inl, inr, subst, ◌∙◌}
use Rattle.ps_wire.specs.Reading.{IsNext, rest_of}
use Rattle.ps_wire.specs.declared.lines.NextLine.{NextLine}
use Rattle.ps_streams.proofs.Lines.{asked-line, asked-long, came-line, came-long}
use Rattle.ps_streams.proofs.Looping.{err-same}
use Rattle.ps_streams.proofs.read.next_arrival.Goals as goal

pub returns-in-Ok-Line-clause-some : goal.returns-in-Ok-Line-clause-some
returns-in-Ok-Line-clause-some g c =
    let before = rest_of c.args.lines.now in
    let left = rest_of c.next.new.self in
    record {
      came = came-line c.in-Ok-Line.bytes c.moment-moment.result before left (subst (λ (n : NextLine). IsNext n before left) c.in-Ok-Line.field-0-is c.in-Ok-Line.ensures.next);
      asked = asked-line (g.C.Clock.told c.args.clock.now) (g.C.Clock.told c.moment-moment.new.clock) c.in-Ok-Line.bytes c.moment-moment.result c.moment-moment.ensures.gives;
      moment = c.moment-moment.ensures.bound;
    }

pub returns-in-Ok-TooLong-clause-some : goal.returns-in-Ok-TooLong-clause-some
returns-in-Ok-TooLong-clause-some g c =
    let before = rest_of c.args.lines.now in
    let left = rest_of c.next.new.self in
    record {
      came = came-long before left (subst (λ (n : NextLine). IsNext n before left) c.in-Ok-TooLong.field-0-is c.in-Ok-TooLong.ensures.next);
      asked = asked-long (g.C.Clock.told c.args.clock.now) (g.C.Clock.told c.moment.new.clock) c.moment.result c.moment.ensures.gives;
      moment = tt;
    }

pub returns-in-Err-clause-cut : goal.returns-in-Err-clause-cut
returns-in-Err-clause-cut g c = λ e.
    c.in-Err.ensures.no_line (elim e [ inl x ↦ inl (ap Err (c.end_of_lines.ensures.fault x)) | inr x ↦ inr (ap Err (c.end_of_lines.ensures.long x)) ]) c.requires.going

pub returns-in-Err-clause-memory : goal.returns-in-Err-clause-memory
returns-in-Err-clause-memory g c = λ e. c.in-Err.ensures.stops ∙ ap Some (c.end_of_lines.ensures.memory (err-same c.end_of_lines.result _ e))
