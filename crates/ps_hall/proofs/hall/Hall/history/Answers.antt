use Rattle.std.proofs.Common.{inl, refl}
use Rattle.ps_twin.specs.Seats.{number_of, seen_of}
use Rattle.ps_hall_flush.proofs.Flushing.{flushed_owned}
use Rattle.ps_hall_flush.proofs.Histories.{history_err, history_ok, read_owned}
use Rattle.ps_hall.proofs.Passing.{pass_after}
use Rattle.ps_hall.proofs.hall.Hall.history.Goals as goal

pub flush_seat-flushed-requires : goal.flush_seat-flushed-requires
flush_seat-flushed-requires g c = c.requires.pass.call

pub returns-in-Ok-clause-pass : goal.returns-in-Ok-clause-pass
returns-in-Ok-clause-pass g c =
    let o = g.B.Opening.origin in
    let r = c.read_seat.ensures in
    let s = c.read_seat.new.seat in
    pass_after o c.args.self.now.twin c.args.pass.now.at c.args.pass.now.host c.args.pass.now.seat s c.requires.pass r.call
    (read_owned o g.D.Disk.tells c.flush_seat-flushed.new.seat s c.read_seat.result r.ok r.err)

pub returns-in-Ok-clause-ok : goal.returns-in-Ok-clause-ok
returns-in-Ok-clause-ok g c =
    let x = c.flush_seat-flushed.ensures in
    let ok = rw c.in-Ok.is at x.ok in
    let known = rw c.in-Ok.is at x.known in
    history_ok g.B.Opening.origin g.D.Disk.tells c.args.pass.now.seat c.flush_seat-flushed.new.seat c.read_seat.new.seat c.read_seat.result x.number ok known c.read_seat.ensures.ok

pub returns-in-Ok-clause-err : goal.returns-in-Ok-clause-err
returns-in-Ok-clause-err g c =
    let x = c.flush_seat-flushed.ensures in
    let ok = rw c.in-Ok.is at x.ok in
    history_err g.B.Opening.origin g.D.Disk.tells c.args.pass.now.seat c.flush_seat-flushed.new.seat c.read_seat.new.seat c.read_seat.result x.number ok c.read_seat.ensures.err

pub returns-in-Err-Store-clause-pass : goal.returns-in-Err-Store-clause-pass
returns-in-Err-Store-clause-pass g c =
    let o = g.B.Opening.origin in
    let x = c.flush_seat-flushed.ensures in
    let old = c.args.pass.now.seat in
    let s = c.flush_seat-flushed.new.seat in
    pass_after o c.args.self.now.twin c.args.pass.now.at c.args.pass.now.host old s c.requires.pass x.call
    (flushed_owned o (number_of old) (seen_of old) (seen_of s) c.flush_seat-flushed.result x.ok x.err)

pub returns-in-Err-Store-clause-err : goal.returns-in-Err-Store-clause-err
returns-in-Err-Store-clause-err g c = inl (refl, rw c.in-Err-Store.is at c.flush_seat-flushed.ensures.err)
