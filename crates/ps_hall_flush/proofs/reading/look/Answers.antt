use Rattle.std.proofs.Common.{refl, ◌∙◌, arith, inl}
use Rattle.ps_twin.specs.Seats.{seen_of}
use Rattle.ps_world.proofs.Lists.{nil-right}
use Rattle.ps_hall_flush.proofs.Framing.{no_frame}
use Rattle.ps_hall_flush.proofs.Homing.{notes_none, passed_by}
use Rattle.ps_hall_flush.proofs.Seating.{holds_on}
use Rattle.ps_hall_flush.proofs.reading.look.Goals as goal

pub leave_as_was-requires-clause-may : goal.leave_as_was-requires-clause-may
leave_as_was-requires-clause-may g c =
    let e = c.enter-home.ensures in
    let s = c.enter-home.new.seat in
    let v = c.enter-home.result.state in
    notes_none g.B.Opening.origin c.args.twin.now s v v e.twin e.held e.value refl refl (omega arith) e.value.begun refl e.firm (inl (holds_on c.args.seat.now s e.hand c.requires.held.1))
    (λ service some w is. is)

pub returns-clause-passed : goal.returns-clause-passed
returns-clause-passed g c =
    let e = c.enter-home.ensures in
    let s = c.enter-home.new.seat in
    passed_by g.B.Opening.origin c.args.seat.now s c.leave_as_was.new.seat e.later e.value.owned (c.leave_as_was.ensures.seen ∙ nil-right (seen_of s))

pub returns-clause-as_was : goal.returns-clause-as_was
returns-clause-as_was g c =
    let e = c.enter-home.ensures in
    no_frame g.B.Opening.origin c.args.twin.now c.args.seat.now c.enter-home.new.seat c.leave_as_was.new.seat c.enter-home.result.state c.args.archive.now.store c.requires e.hand e.value
    (e.front c.requires.held.1) (e.marked c.requires.held.1) c.leave_as_was.ensures
