use Rattle.std.proofs.Common.{refl, ap}
use Rattle.ps_model.specs.declared.steps.Role.TheVariants.{Reader}
use Rattle.ps_model.specs.declared.steps.Step.TheVariants.{Ended}
use Rattle.ps_twin.specs.Seats.{seen_of, number_of}
use Rattle.ps_hall_flush.specs.Flush.{Flushes, NotFlushed}
use Rattle.ps_hall_flush.proofs.Framing.{adds_as}
use Rattle.ps_hall.proofs.Refusals.{ends_err, ends_ok}
use Rattle.ps_hall.proofs.hall.Hall.flush_and_end.Goals as goal

pub returns-clause-ok : goal.returns-clause-ok
returns-clause-ok g c =
    let o = g.B.Opening.origin in
    let e = c.flush-flushed.ensures in
    let old = c.args.pass.now in
    let mid = c.flush-flushed.new.pass in
    let new = c.end_reader.new.pass in
    let ended = adds_as o (number_of mid.seat) (number_of old.seat) (seen_of mid.seat) (seen_of mid.seat) (seen_of new.seat) (Ended mid.host Reader) (Ended old.host Reader) e.number refl
    (ap (λ h. Ended h Reader) e.same.1) c.end_reader.ensures.ended in
    ends_ok o (number_of old.seat) old.host (seen_of old.seat) (seen_of mid.seat) (seen_of new.seat) (Flushes o (number_of old.seat)) ended c.flush-flushed.result e.ok

pub returns-clause-err : goal.returns-clause-err
returns-clause-err g c =
    let o = g.B.Opening.origin in
    let e = c.flush-flushed.ensures in
    let old = c.args.pass.now in
    let mid = c.flush-flushed.new.pass in
    let new = c.end_reader.new.pass in
    let ended = adds_as o (number_of mid.seat) (number_of old.seat) (seen_of mid.seat) (seen_of mid.seat) (seen_of new.seat) (Ended mid.host Reader) (Ended old.host Reader) e.number refl
    (ap (λ h. Ended h Reader) e.same.1) c.end_reader.ensures.ended in
    ends_err o (number_of old.seat) old.host (seen_of old.seat) (seen_of mid.seat) (seen_of new.seat) (NotFlushed o (number_of old.seat)) ended c.flush-flushed.result e.err
