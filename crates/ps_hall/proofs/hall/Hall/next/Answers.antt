use Rattle.std.proofs.Common.{List, ℕ, ap, subst, sym, ◌∙◌}
use Rattle.std.specs.Prelude.{IfOk}
use Rattle.ps_types.specs.declared.jid.Jid.{Jid}
use Rattle.ps_trace.specs.Own.{deeds}
use Rattle.ps_twin.specs.Seats.{seen_of, number_of}
use Rattle.ps_hall_state.specs.Next.{IsNext}
use Rattle.ps_trace.specs.Did.{HasInHand}
use Rattle.ps_hall.specs.Calls.{NextDoes}
use Rattle.ps_hall.specs.Told.{IsToldAs}
use Rattle.ps_hall_flush.specs.Homes.{bytes_in, world_at}
use Rattle.ps_hall.specs.Steps.{next_steps}
use Rattle.ps_hall.proofs.Flying.{hand_found}
use Rattle.ps_hall_flush.proofs.Homing.{did_by, home_few, home_here, home_row, notes}
use Rattle.ps_hall_flush.proofs.Logs.{world_more}
use Rattle.ps_hall.proofs.Passing.{writer_on, writes_at}
use Rattle.ps_hall.proofs.Telling.{next_does, next_few, next_hand, next_owned, next_quiet, next_rooms, next_stands}
use Rattle.ps_hall.proofs.hall.Hall.next.Goals as goal

pub next_with_room-next-requires-clause-here : goal.next_with_room-next-requires-clause-here
next_with_room-next-requires-clause-here g c = home_here g.B.Opening.origin c.enter-home.result.state (seen_of c.enter-home.new.seat) c.args.pass.now.at c.args.pass.now.host
    c.enter-home.ensures.value c.requires.writer.pass.here

pub next_with_room-next-requires-clause-few : goal.next_with_room-next-requires-clause-few
next_with_room-next-requires-clause-few g c = home_few g.B.Opening.origin c.enter-home.result.state (seen_of c.enter-home.new.seat) c.enter-home.ensures.value c.enter-home.ensures.few

pub leave_told-requires : goal.leave_told-requires
leave_told-requires g c κs within =
    let o = g.B.Opening.origin in
    let e = c.enter-home.ensures in
    let x = c.next_with_room-next.ensures in
    let s = c.enter-home.new.seat in
    let v = c.enter-home.result.state in
    let now = c.next_with_room-next.new.state in
    let host = c.args.pass.now.host in
    let result = c.next_with_room-next.result in
    let row = home_row o v (seen_of s) c.args.pass.now.at host e.value c.requires.writer.pass.here in
    let ok = subst (λ (h : List ℕ). IfOk result (λ n. IsNext v now h n)) row.2 (x.ok row.0 row.1) in
    let writes = writes_at o c.args.self.now.twin c.args.pass.now.at host c.args.pass.now.seat (number_of s) e.number c.requires.writer in (
      within.0,
      (
        within.1,
        (
          e.twin,
          notes o c.args.self.now.twin s v now (next_steps host result) e.twin e.held e.value e.firm e.mark x.kept (next_quiet host result)
              (next_owned o v now (seen_of s) e.value host (number_of s) (bytes_in now) result ok writes)
              (λ le. next_rooms o v now (seen_of s) e.value host (number_of s) result) (next_few host result) (next_stands o v now (seen_of s) e.value host result ok x.err),
        ),
      ),
    )

pub returns-clause-does : goal.returns-clause-does
returns-clause-does g c =
    let o = g.B.Opening.origin in
    let t = c.args.self.now.twin in
    let e = c.enter-home.ensures in
    let x = c.next_with_room-next.ensures in
    let old = c.args.pass.now.seat in
    let s = c.enter-home.new.seat in
    let v = c.enter-home.result.state in
    let now = c.next_with_room-next.new.state in
    let host = c.args.pass.now.host in
    let result = c.next_with_room-next.result in
    let row = home_row o v (seen_of s) c.args.pass.now.at host e.value c.requires.writer.pass.here in
    let ok = subst (λ (h : List ℕ). IfOk result (λ n. IsNext v now h n)) row.2 (x.ok row.0 row.1) in
    let writes = writes_at o t c.args.pass.now.at host old (number_of s) e.number c.requires.writer in
    let held = hand_found o v (number_of old) (seen_of old) (seen_of s) e.value e.later host (c.args.pass.now.at, c.requires.writer.pass.here, c.requires.writer.number) c.args.pass.now.in_hand.items
    c.requires.hand in
    let told_is = subst (λ (h : List Jid). IsToldAs result c.told.result h c.told.new.hand.items) x.hand c.told.ensures in
    did_by o old s c.leave_told.new.seat v now (next_steps host result) (NextDoes o host c.args.pass.now.in_hand.items c.told.result c.told.new.hand.items) e.number e.later e.value
    (next_owned o v now (seen_of s) e.value host (number_of s) (bytes_in now) result ok writes) c.leave_told.ensures.seen
    (next_does o v now (seen_of s) e.value host result c.told.result c.args.pass.now.in_hand.items c.told.new.hand.items told_is ok held)

pub returns-clause-hand : goal.returns-clause-hand
returns-clause-hand g c =
    let o = g.B.Opening.origin in
    let e = c.enter-home.ensures in
    let x = c.next_with_room-next.ensures in
    let old = c.args.pass.now.seat in
    let s = c.enter-home.new.seat in
    let v = c.enter-home.result.state in
    let now = c.next_with_room-next.new.state in
    let host = c.args.pass.now.host in
    let result = c.next_with_room-next.result in
    let row = home_row o v (seen_of s) c.args.pass.now.at host e.value c.requires.writer.pass.here in
    let ok = subst (λ (h : List ℕ). IfOk result (λ n. IsNext v now h n)) row.2 (x.ok row.0 row.1) in
    let held = hand_found o v (number_of old) (seen_of old) (seen_of s) e.value e.later host (c.args.pass.now.at, c.requires.writer.pass.here, c.requires.writer.number) c.args.pass.now.in_hand.items
    c.requires.hand in
    let told_is = subst (λ (h : List Jid). IsToldAs result c.told.result h c.told.new.hand.items) x.hand c.told.ensures in
    subst (HasInHand host c.told.new.hand.items) (sym (ap (λ l. world_at o l) c.leave_told.ensures.seen ∙ world_more o (seen_of s) (number_of s) (bytes_in now) (next_steps host result)))
    (next_hand o v now (seen_of s) e.value host result c.told.result c.args.pass.now.in_hand.items c.told.new.hand.items told_is ok held)

pub returns-clause-writer : goal.returns-clause-writer
returns-clause-writer g c =
    let now = c.next_with_room-next.new.state in
    let s = c.enter-home.new.seat in
    writer_on g.B.Opening.origin c.args.self.now.twin c.args.pass.now.at c.args.pass.now.host c.args.pass.now.seat s c.leave_told.new.seat now
    (deeds (number_of s) (bytes_in now) (next_steps c.args.pass.now.host c.next_with_room-next.result)) c.requires.writer c.enter-home.ensures.number c.enter-home.ensures.hand c.leave_told.ensures
    (returns-clause-does g c).owned
