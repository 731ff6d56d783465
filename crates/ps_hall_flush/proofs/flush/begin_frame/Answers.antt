use Rattle.std.proofs.Common.{refl, ap, ◌∙◌, arith, inl}
use Rattle.ps_twin.specs.Seats.{seen_of}
use Rattle.ps_hall_flush.proofs.Framing.{frame_begun, frame_refused, frame_spared}
use Rattle.ps_hall_flush.proofs.Homing.{begun_all, bytes_given, home_standing, notes_none, passed_by}
use Rattle.ps_hall_flush.proofs.Seating.{holds_on}
use Rattle.ps_world.proofs.Lists.{nil-right}
use Rattle.ps_hall_flush.proofs.flush.begin_frame.Goals as goal

pub leave_as_was-requires-clause-may : goal.leave_as_was-requires-clause-may
leave_as_was-requires-clause-may g c =
    let e = c.enter-home.ensures in
    let s = c.enter-home.new.seat in
    let v = c.enter-home.result.state in
    notes_none g.B.Opening.origin c.args.twin.now s v v e.twin e.held e.value refl refl (omega arith) e.value.begun refl e.firm (inl (holds_on c.args.seat.now s e.hand c.requires.held.1))
    (λ service some w is. is)

pub leave_as_was-requires-then-upto-home-clause-may : goal.leave_as_was-requires-then-upto-home-clause-may
leave_as_was-requires-then-upto-home-clause-may g c =
    let e = c.enter-home.ensures in
    let s = c.enter-home.new.seat in
    let v = c.enter-home.result.state in
    notes_none g.B.Opening.origin c.args.twin.now s v v e.twin e.held e.value refl refl (omega arith) e.value.begun refl e.firm (inl (holds_on c.args.seat.now s e.hand c.requires.held.1))
    (λ service some w is. is)

pub frame_of-frame-requires : goal.frame_of-frame-requires
frame_of-frame-requires g c = record { standing = home_standing g.B.Opening.origin c.enter-home.result.state (seen_of c.enter-home.new.seat) c.enter-home.ensures.value }

pub leave_as_was-requires-2-clause-may : goal.leave_as_was-requires-2-clause-may
leave_as_was-requires-2-clause-may g c =
    let e = c.enter-home.ensures in
    let x = c.frame_of-frame.ensures in
    let s = c.enter-home.new.seat in
    let v = c.enter-home.result.state in
    let now = c.frame_of-frame.new.state in
    notes_none g.B.Opening.origin c.args.twin.now s v now e.twin e.held e.value x.kept.hosts x.kept.limits
    (bytes_given v now x.none (ap (λ p. p.1) x.mark ∙ x.longer)) (begun_all g.B.Opening.origin v now.count now.length (seen_of s) e.value (ap (λ p. p.1) x.mark ∙ x.longer)) x.kept.flushed e.firm
    (inl (holds_on c.args.seat.now s e.hand c.requires.held.1)) x.goes

pub returns-clause-passed : goal.returns-clause-passed
returns-clause-passed g c =
    let e = c.enter-home.ensures in
    let s = c.enter-home.new.seat in
    passed_by g.B.Opening.origin c.args.seat.now s c.leave_as_was-2.new.seat e.later e.value.owned (c.leave_as_was-2.ensures.seen ∙ nil-right (seen_of s))

pub returns-clause-some : goal.returns-clause-some
returns-clause-some g c =
    let e = c.enter-home.ensures in
    let s = c.enter-home.new.seat in
    frame_begun g.B.Opening.origin c.args.twin.now c.args.seat.now s c.leave_as_was-2.new.seat c.enter-home.result.state c.frame_of-frame.new.state c.args.archive.now.store c.frame_of-frame.result
    c.requires e.hand e.value (e.front c.requires.held.1) (e.marked c.requires.held.1)
    c.if-home.false c.frame_of-frame.ensures c.leave_as_was-2.ensures

pub returns-then-home-clause-passed : goal.returns-then-home-clause-passed
returns-then-home-clause-passed g c =
    let e = c.enter-home.ensures in
    let s = c.enter-home.new.seat in
    passed_by g.B.Opening.origin c.args.seat.now s c.leave_as_was.new.seat e.later e.value.owned (c.leave_as_was.ensures.seen ∙ nil-right (seen_of s))

pub returns-then-home-clause-err : goal.returns-then-home-clause-err
returns-then-home-clause-err g c =
    let e = c.enter-home.ensures in
    let s = c.enter-home.new.seat in
    frame_refused g.B.Opening.origin c.args.twin.now c.args.seat.now s c.leave_as_was.new.seat c.enter-home.result.state c.args.archive.now.store c.requires e.hand e.value (e.front c.requires.held.1)
    (e.marked c.requires.held.1) c.if-home.true c.leave_as_was.ensures

pub returns-then-upto-home-clause-passed : goal.returns-then-upto-home-clause-passed
returns-then-upto-home-clause-passed g c =
    let e = c.enter-home.ensures in
    let s = c.enter-home.new.seat in
    passed_by g.B.Opening.origin c.args.seat.now s c.leave_as_was-then-upto-home.new.seat e.later e.value.owned (c.leave_as_was-then-upto-home.ensures.seen ∙ nil-right (seen_of s))

pub returns-then-upto-home-clause-none : goal.returns-then-upto-home-clause-none
returns-then-upto-home-clause-none g c =
    let e = c.enter-home.ensures in
    let s = c.enter-home.new.seat in
    frame_spared g.B.Opening.origin c.args.twin.now c.args.seat.now s c.leave_as_was-then-upto-home.new.seat c.enter-home.result.state c.args.archive.now.store c.args.upto c.requires e.hand e.value
    (e.front c.requires.held.1) (e.marked c.requires.held.1) c.if-home.false c.if-upto-home.true e.firm c.leave_as_was-then-upto-home.ensures
