use Rattle.std.proofs.Common.{List, ℕ, subst, sym}
use Rattle.std.specs.Prelude.{OnErr}
use Rattle.ps_trace.specs.Did.{HasInHand}
use Rattle.ps_trace.specs.Own.{deeds}
use Rattle.ps_twin.specs.Seats.{seen_of, number_of}
use Rattle.ps_hall.specs.Calls.{RecordsSome}
use Rattle.ps_hall.specs.Ending.{RecordsOrEnds}
use Rattle.ps_hall_flush.specs.Homes.{bytes_in, world_at}
use Rattle.ps_hall.specs.Steps.{record_steps}
use Rattle.ps_hall.proofs.Flying.{hand_found, hand_refused, holding}
use Rattle.ps_hall_flush.proofs.Homing.{did_by, home_differ, home_few, home_here, home_host, home_row, notes}
use Rattle.ps_hall.proofs.Passing.{writer_on, writes_at}
use Rattle.ps_hall.proofs.Recording.{bytes_grow, record_does, record_few, records_most, record_over, record_owned, record_quiet, record_rooms, record_stands}
use Rattle.ps_hall.proofs.handed.record.Goals as goal

pub record_or_end-outcome-requires-clause-here : goal.record_or_end-outcome-requires-clause-here
record_or_end-outcome-requires-clause-here g c κs within = home_here g.B.Opening.origin c.enter-home.result.state (seen_of c.enter-home.new.seat) c.args.at c.args.host.now c.enter-home.ensures.value
    c.requires.writer.pass.here

pub record_or_end-outcome-requires-clause-few : goal.record_or_end-outcome-requires-clause-few
record_or_end-outcome-requires-clause-few g c κs within = home_few g.B.Opening.origin c.enter-home.result.state (seen_of c.enter-home.new.seat) c.enter-home.ensures.value c.enter-home.ensures.few

pub record_or_end-outcome-requires-clause-holding : goal.record_or_end-outcome-requires-clause-holding
record_or_end-outcome-requires-clause-holding g c κs within row was =
    let o = g.B.Opening.origin in
    let e = c.enter-home.ensures in
    let old = c.args.seat.now in
    let s = c.enter-home.new.seat in
    let v = c.enter-home.result.state in
    let host = c.args.host.now in
    let hand = c.args.hand.now.items in
    let held = hand_found o v (number_of old) (seen_of old) (seen_of s) e.value e.later host (c.args.at, c.requires.writer.pass.here, c.requires.writer.number) hand c.requires.hand in
    holding o v (seen_of s) host hand e.value held row (home_host o v (seen_of s) c.args.at host row e.value c.requires.writer.pass.here was)

pub leave_recorded-requires : goal.leave_recorded-requires
leave_recorded-requires g c κs within =
    let o = g.B.Opening.origin in
    let e = c.enter-home.ensures in
    let x = c.record_or_end-outcome.ensures in
    let old = c.args.seat.now in
    let s = c.enter-home.new.seat in
    let v = c.enter-home.result.state in
    let now = c.record_or_end-outcome.new.state in
    let host = c.args.host.now in
    let hand = c.args.hand.now.items in
    let result = c.record_or_end-outcome.result in
    let row = home_row o v (seen_of s) c.args.at host e.value c.requires.writer.pass.here in
    let held = hand_found o v (number_of old) (seen_of old) (seen_of s) e.value e.later host (c.args.at, c.requires.writer.pass.here, c.requires.writer.number) hand c.requires.hand in
    let did = subst (λ (h : List ℕ). RecordsOrEnds v now h hand result) row.2 (x.does row.0 row.1) in
    let writes = writes_at o c.args.twin.now c.args.at host old (number_of s) e.number c.requires.writer in (
      within.0,
      (
        within.1,
        (
          e.twin,
          notes o c.args.twin.now s v now (record_steps host hand result) e.twin e.held e.value e.firm e.mark x.kept (record_quiet host hand result)
              (record_owned o.hosts (number_of s) (bytes_in now) host hand result held.are writes)
              (λ le. record_rooms o v now (seen_of s) e.value (number_of s) host hand result) (record_few v now host hand result did)
              (record_stands o v now (seen_of s) e.value host hand result c.requires.some did),
        ),
      ),
    )

pub returns-clause-does : goal.returns-clause-does
returns-clause-does g c =
    let o = g.B.Opening.origin in
    let e = c.enter-home.ensures in
    let x = c.record_or_end-outcome.ensures in
    let old = c.args.seat.now in
    let s = c.enter-home.new.seat in
    let v = c.enter-home.result.state in
    let now = c.record_or_end-outcome.new.state in
    let host = c.args.host.now in
    let hand = c.args.hand.now.items in
    let result = c.record_or_end-outcome.result in
    let row = home_row o v (seen_of s) c.args.at host e.value c.requires.writer.pass.here in
    let held = hand_found o v (number_of old) (seen_of old) (seen_of s) e.value e.later host (c.args.at, c.requires.writer.pass.here, c.requires.writer.number) hand c.requires.hand in
    let did = subst (λ (h : List ℕ). RecordsOrEnds v now h hand result) row.2 (x.does row.0 row.1) in
    let writes = writes_at o c.args.twin.now c.args.at host old (number_of s) e.number c.requires.writer in
    did_by o old s c.leave_recorded.new.seat v now (record_steps host hand result) (RecordsSome o host hand result) e.number e.later e.value
    (record_owned o.hosts (number_of s) (bytes_in now) host hand result held.are writes)
    c.leave_recorded.ensures.seen (record_does o v now (seen_of s) e.value host hand result c.requires.some held did)

pub returns-clause-over : goal.returns-clause-over
returns-clause-over g c =
    let o = g.B.Opening.origin in
    let e = c.enter-home.ensures in
    let x = c.record_or_end-outcome.ensures in
    let old = c.args.seat.now in
    let s = c.enter-home.new.seat in
    let v = c.enter-home.result.state in
    let now = c.record_or_end-outcome.new.state in
    let host = c.args.host.now in
    let hand = c.args.hand.now.items in
    let result = c.record_or_end-outcome.result in
    let row = home_row o v (seen_of s) c.args.at host e.value c.requires.writer.pass.here in
    let held = hand_found o v (number_of old) (seen_of old) (seen_of s) e.value e.later host (c.args.at, c.requires.writer.pass.here, c.requires.writer.number) hand c.requires.hand in
    let did = subst (λ (h : List ℕ). RecordsOrEnds v now h hand result) row.2 (x.does row.0 row.1) in
    let owned = record_owned o.hosts (number_of s) (bytes_in now) host hand result held.are (writes_at o c.args.twin.now c.args.at host old (number_of s) e.number c.requires.writer) in
    record_over o v now (seen_of s) e.value (number_of s) host hand result (seen_of c.leave_recorded.new.seat) did
    (bytes_grow o v now (seen_of s) e.value (number_of s) (record_steps host hand result) (record_stands o v now (seen_of s) e.value host hand result c.requires.some did) owned x.kept)
    c.leave_recorded.ensures.seen

pub returns-clause-hand : goal.returns-clause-hand
returns-clause-hand g c =
    let o = g.B.Opening.origin in
    let e = c.enter-home.ensures in
    let old = c.args.seat.now in
    let s = c.enter-home.new.seat in
    let v = c.enter-home.result.state in
    let now = c.record_or_end-outcome.new.state in
    let host = c.args.host.now in
    let hand = c.args.hand.now.items in
    let result = c.record_or_end-outcome.result in
    let held = hand_found o v (number_of old) (seen_of old) (seen_of s) e.value e.later host (c.args.at, c.requires.writer.pass.here, c.requires.writer.number) hand c.requires.hand in
    subst (λ l. OnErr result (HasInHand host hand (world_at o l))) (sym c.leave_recorded.ensures.seen) (hand_refused o (seen_of s) (number_of s) (bytes_in now) host hand result held)

pub returns-clause-writer : goal.returns-clause-writer
returns-clause-writer g c =
    let now = c.record_or_end-outcome.new.state in
    let s = c.enter-home.new.seat in
    writer_on g.B.Opening.origin c.args.twin.now c.args.at c.args.host.now c.args.seat.now s c.leave_recorded.new.seat now
    (deeds (number_of s) (bytes_in now) (record_steps c.args.host.now c.args.hand.now.items c.record_or_end-outcome.result)) c.requires.writer c.enter-home.ensures.number c.enter-home.ensures.hand
    c.leave_recorded.ensures (returns-clause-does g c).owned

pub returns-clause-differ : goal.returns-clause-differ
returns-clause-differ g c = home_differ g.B.Opening.origin c.enter-home.result.state (seen_of c.enter-home.new.seat) c.enter-home.ensures.value

pub returns-clause-most : goal.returns-clause-most
returns-clause-most g c =
    let o = g.B.Opening.origin in
    let e = c.enter-home.ensures in
    let s = c.enter-home.new.seat in
    let v = c.enter-home.result.state in
    let row = home_row o v (seen_of s) c.args.at c.args.host.now e.value c.requires.writer.pass.here in
    records_most v c.record_or_end-outcome.new.state row.0.host c.args.hand.now.items c.record_or_end-outcome.result (c.record_or_end-outcome.ensures.does row.0 row.1)
