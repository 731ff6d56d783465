use Rattle.std.proofs.Common.{◌∙◌, subst}
use Rattle.std.specs.Io.KnownBytes.{Appends}
use Rattle.ps_wire.specs.Writing.{AppendsFront}
use Rattle.ps_follow_run.proofs.feeding.run_feed.Goals as goal

pub returns-in-Ok : goal.returns-in-Ok
returns-in-Ok g c from E are =
    let K = g.K.Sink in
    let before = K.written c.args.sink.now in
    let now = K.written c.write_bytes.new.sink in
    let is = c.deref.ensures.value ∙ are.bytes_are in
    record {
      later = c.write_bytes.ensures.cause.later;
      front = subst (AppendsFront before now) is c.write_bytes.ensures.part;
      whole = λ e. subst (Appends before now) is c.in-Ok.ensures.whole;
      fault = λ e. absurd (cc e);
    }

pub returns-in-Err : goal.returns-in-Err
returns-in-Err g c from E are =
    let K = g.K.Sink in
    let before = K.written c.args.sink.now in
    let now = K.written c.write_bytes.new.sink in
    let is = c.deref.ensures.value ∙ are.bytes_are in
    record {
      later = c.write_bytes.ensures.cause.later;
      front = subst (AppendsFront before now) is c.write_bytes.ensures.part;
      whole = λ e. absurd (cc e);
      fault = λ e. c.in-Err.ensures.cause.failed;
    }
