use Rattle.std.proofs.Common.{subst}
use Rattle.ps_wire.specs.Reading.{IsNext, rest_of}
use Rattle.ps_wire.specs.declared.lines.NextLine.{NextLine}
use Rattle.ps_follow_run.proofs.Coming.{came-end, came-line, came-long}
use Rattle.ps_follow_run.proofs.lines.next_arrival.Goals as goal

pub returns-in-Ok-Line-clause-some : goal.returns-in-Ok-Line-clause-some
returns-in-Ok-Line-clause-some g c =
    let before = rest_of c.args.lines.now in
    let left = rest_of c.next.new.self in
    came-line c.in-Ok-Line.bytes before left (subst (λ (n : NextLine). IsNext n before left) c.in-Ok-Line.field-0-is c.in-Ok-Line.ensures.next)

pub returns-in-Ok-TooLong-clause-some : goal.returns-in-Ok-TooLong-clause-some
returns-in-Ok-TooLong-clause-some g c =
    let before = rest_of c.args.lines.now in
    let left = rest_of c.next.new.self in
    came-long before left (subst (λ (n : NextLine). IsNext n before left) c.in-Ok-TooLong.field-0-is c.in-Ok-TooLong.ensures.next)

pub returns-in-Ok-End-clause-none : goal.returns-in-Ok-End-clause-none
returns-in-Ok-End-clause-none g c =
    let before = rest_of c.args.lines.now in
    let left = rest_of c.next.new.self in
    came-end before left (subst (λ (n : NextLine). IsNext n before left) c.in-Ok-End.field-0-is c.in-Ok-End.ensures.next)
