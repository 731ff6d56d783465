use Rattle.std.proofs.Common.{ℕ, List, ◌+◌, sym, ap, ◌∙◌, subst}
use Rattle.ps_trace.specs.Own.{IsWriterOf}
use Rattle.ps_twin.specs.Seats.{number_of, seen_of}
use Rattle.ps_streams.proofs.Causes.{broken-on, landed-on}
use Rattle.ps_streams.proofs.Ending.{ends-added, ends-after, ends-as}
use Rattle.ps_streams.proofs.Looping.{speaks-end, writer-end}
use Rattle.ps_streams.proofs.write.write_stream.Goals as goal

-- ---- no room was found

pub returns-then-has_ended-clause-ended : goal.returns-then-has_ended-clause-ended
returns-then-has_ended-clause-ended g c = c.write_lines-why.ensures.ended (c.has_ended.ensures.full c.if-has_ended.true)

pub returns-then-has_ended-clause-done : goal.returns-then-has_ended-clause-done
returns-then-has_ended-clause-done g c = λ e. absurd (cc (sym e ∙ c.has_ended.ensures.full c.if-has_ended.true))

-- ---- any other end

pub returns-clause-spoke : goal.returns-clause-spoke
returns-clause-spoke g c =
    let w = c.write_lines-why.ensures in
    let now = c.write_lines-why.new.pass in
    let same = w.writer.number ∙ (ap (λ n. n + n + 1) w.same.at ∙ sym c.requires.ready.writer.number) in
    speaks-end g.B.Opening.origin (number_of c.args.pass.now.seat) (number_of now.seat) now.host (seen_of c.args.pass.now.seat) (seen_of now.seat) (seen_of c.writer_ended.new.pass.seat)
    (g.K.Sink.written c.args.sink.now) (g.K.Sink.written c.write_lines-why.new.sink) _ same w.spoke c.writer_ended.ensures.ended

pub returns-clause-ended : goal.returns-clause-ended
returns-clause-ended g c =
    let w = c.write_lines-why.ensures in
    let now = c.write_lines-why.new.pass in
    let k = number_of c.args.pass.now.seat in
    let j = number_of now.seat in
    let h = c.args.pass.now.host in
    let mid = seen_of now.seat in
    let new = seen_of c.writer_ended.new.pass.seat in
    let same = w.writer.number ∙ (ap (λ n. n + n + 1) w.same.at ∙ sym c.requires.ready.writer.number) in
    ends-after h k (seen_of c.args.pass.now.seat) mid new (w.going (c.has_ended.ensures.other c.if-has_ended.false))
    (ends-as j k now.host h mid new same w.same.host (ends-added g.B.Opening.origin j now.host mid new c.writer_ended.ensures.ended))

pub returns-clause-done : goal.returns-clause-done
returns-clause-done g c = λ e. (
    let w = c.write_lines-why.ensures in
    let now = c.write_lines-why.new.pass in
    let same = w.writer.number ∙ (ap (λ n. n + n + 1) w.same.at ∙ sym c.requires.ready.writer.number) in
    writer-end g.B.Opening.origin (number_of c.args.pass.now.seat) (number_of now.seat) c.args.pass.now.host now.host (seen_of c.args.pass.now.seat) (seen_of now.seat)
    (seen_of c.writer_ended.new.pass.seat) same w.same.host
    (w.going (c.has_ended.ensures.other c.if-has_ended.false)) (w.over e) c.writer_ended.ensures.ended)

pub returns-clause-store : goal.returns-clause-store
returns-clause-store g c = λ e. (
    let now = c.write_lines-why.new.pass in
    broken-on g.B.Opening.origin (number_of now.seat) (seen_of now.seat) (seen_of c.writer_ended.new.pass.seat) c.writer_ended.ensures.ended (c.write_lines-why.ensures.store e))

pub returns-clause-full : goal.returns-clause-full
returns-clause-full g c = λ e. absurd (c.has_ended.ensures.other c.if-has_ended.false e)

pub returns-clause-landed : goal.returns-clause-landed
returns-clause-landed g c = λ no. (
    let o = g.B.Opening.origin in
    let w = c.write_lines-why.ensures in
    let now = c.write_lines-why.new.pass in
    let here = subst (λ (h : List ℕ). IsWriterOf o.hosts (number_of now.seat) h) w.same.host (now.at, w.writer.pass.here, w.writer.number) in
    landed-on o (number_of now.seat) c.requires.differ c.args.pass.now.host here now.host (seen_of now.seat) (seen_of c.writer_ended.new.pass.seat) c.writer_ended.ensures.ended (w.landed no))
