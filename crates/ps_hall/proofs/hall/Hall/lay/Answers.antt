use Rattle.std.proofs.Common.{List, ℕ, subst}
use Rattle.std.specs.Prelude.{IfErr, IfOk}
use Rattle.ps_trace.specs.Own.{deeds}
use Rattle.ps_twin.specs.Seats.{seen_of, number_of}
use Rattle.ps_hall_state.specs.Arrive.{Laid, NotLaid}
use Rattle.ps_hall.specs.Calls.{LayDoes}
use Rattle.ps_hall_flush.specs.Homes.{bytes_in, world_at}
use Rattle.ps_hall.specs.Steps.{lay_steps}
use Rattle.ps_hall_flush.proofs.Homing.{did_by, home_few, home_here, home_row, home_standing, notes}
use Rattle.ps_hall_flush.proofs.Homing.{bytes_on}
use Rattle.ps_hall_flush.proofs.Logs.{calm_of}
use Rattle.ps_hall.proofs.Laying.{lay_does, lay_few, lay_owned, lay_quiet, lay_room, lay_rooms, lay_stands}
use Rattle.ps_hall.proofs.Passing.{reader_on, reads_at}
use Rattle.ps_hall.proofs.hall.Hall.lay.Goals as goal

pub lay-outcome-requires-clause-here : goal.lay-outcome-requires-clause-here
lay-outcome-requires-clause-here g c κs within = home_here g.B.Opening.origin c.enter-home.result.state (seen_of c.enter-home.new.seat) c.args.pass.now.at c.args.pass.now.host
    c.enter-home.ensures.value c.requires.reader.pass.here

pub lay-outcome-requires-clause-few : goal.lay-outcome-requires-clause-few
lay-outcome-requires-clause-few g c κs within = home_few g.B.Opening.origin c.enter-home.result.state (seen_of c.enter-home.new.seat) c.enter-home.ensures.value c.enter-home.ensures.few

pub lay-outcome-requires-clause-standing : goal.lay-outcome-requires-clause-standing
lay-outcome-requires-clause-standing g c κs within = home_standing g.B.Opening.origin c.enter-home.result.state (seen_of c.enter-home.new.seat) c.enter-home.ensures.value

pub leave_laid-requires : goal.leave_laid-requires
leave_laid-requires g c κs within =
    let o = g.B.Opening.origin in
    let e = c.enter-home.ensures in
    let x = c.lay-outcome.ensures in
    let s = c.enter-home.new.seat in
    let v = c.enter-home.result.state in
    let now = c.lay-outcome.new.self in
    let host = c.args.pass.now.host in
    let arrival = c.args.arrival.now in
    let result = c.lay-outcome.result in
    let row = home_row o v (seen_of s) c.args.pass.now.at host e.value c.requires.reader.pass.here in
    let ok = subst (λ (h : List ℕ). IfOk result (λ r. Laid v now h arrival r)) row.2 (x.ok row.0 row.1) in
    let err = subst (λ (h : List ℕ). IfErr result (λ r. NotLaid v now h r)) row.2 (x.err row.0 row.1) in (
      within.0,
      (
        within.1,
        (
          e.twin,
          notes o c.args.self.now.twin s v now (lay_steps host arrival result) e.twin e.held e.value e.firm e.mark x.kept (lay_quiet host arrival result)
              (lay_owned o.hosts (number_of s) (bytes_in now) host arrival result
              (reads_at o c.args.self.now.twin c.args.pass.now.at host c.args.pass.now.seat (number_of s) e.number c.requires.reader))
              (lay_rooms o v now (seen_of s) e.value host arrival (number_of s) result ok) (lay_few host arrival result)
              (lay_stands o v now (seen_of s) e.value host arrival result ok err),
        ),
      ),
    )

pub returns-clause-does : goal.returns-clause-does
returns-clause-does g c =
    let o = g.B.Opening.origin in
    let e = c.enter-home.ensures in
    let x = c.lay-outcome.ensures in
    let s = c.enter-home.new.seat in
    let v = c.enter-home.result.state in
    let now = c.lay-outcome.new.self in
    let host = c.args.pass.now.host in
    let arrival = c.args.arrival.now in
    let result = c.lay-outcome.result in
    let row = home_row o v (seen_of s) c.args.pass.now.at host e.value c.requires.reader.pass.here in
    let ok = subst (λ (h : List ℕ). IfOk result (λ r. Laid v now h arrival r)) row.2 (x.ok row.0 row.1) in
    let err = subst (λ (h : List ℕ). IfErr result (λ r. NotLaid v now h r)) row.2 (x.err row.0 row.1) in
    did_by o c.args.pass.now.seat s c.leave_laid.new.seat v now (lay_steps host arrival result) (LayDoes o host arrival result) e.number e.later e.value
    (lay_owned o.hosts (number_of s) (bytes_in now) host arrival result (reads_at o c.args.self.now.twin c.args.pass.now.at host c.args.pass.now.seat (number_of s) e.number c.requires.reader))
    c.leave_laid.ensures.seen (lay_does o v now (seen_of s) e.value host arrival result ok err)

pub returns-clause-reader : goal.returns-clause-reader
returns-clause-reader g c =
    let now = c.lay-outcome.new.self in
    let s = c.enter-home.new.seat in
    reader_on g.B.Opening.origin c.args.self.now.twin c.args.pass.now.at c.args.pass.now.host c.args.pass.now.seat s c.leave_laid.new.seat now
    (deeds (number_of s) (bytes_in now) (lay_steps c.args.pass.now.host c.args.arrival.now c.lay-outcome.result)) c.requires.reader c.enter-home.ensures.number c.enter-home.ensures.hand
    c.leave_laid.ensures (returns-clause-does g c).owned

pub returns-clause-room : goal.returns-clause-room
returns-clause-room g c =
    let o = g.B.Opening.origin in
    let e = c.enter-home.ensures in
    let x = c.lay-outcome.ensures in
    let s = c.enter-home.new.seat in
    let v = c.enter-home.result.state in
    let now = c.lay-outcome.new.self in
    let host = c.args.pass.now.host in
    let arrival = c.args.arrival.now in
    let result = c.lay-outcome.result in
    let steps = lay_steps host arrival result in
    let row = home_row o v (seen_of s) c.args.pass.now.at host e.value c.requires.reader.pass.here in
    let ok = subst (λ (h : List ℕ). IfOk result (λ r. Laid v now h arrival r)) row.2 (x.ok row.0 row.1) in
    let err = subst (λ (h : List ℕ). IfErr result (λ r. NotLaid v now h r)) row.2 (x.err row.0 row.1) in
    let owned = lay_owned o.hosts (number_of s) (bytes_in now) host arrival result
    (reads_at o c.args.self.now.twin c.args.pass.now.at host c.args.pass.now.seat (number_of s) e.number c.requires.reader) in
    let stands = lay_stands o v now (seen_of s) e.value host arrival result ok err in
    let grows = bytes_on o.boot v now (world_at o (seen_of s)) steps e.value.stands stands (calm_of o.hosts (number_of s) (bytes_in now) steps owned) x.kept.count x.kept.length_same in
    lay_room o v now (seen_of s) e.value host arrival x.kept.count x.kept.length_same (number_of s) result (seen_of c.leave_laid.new.seat) ok err grows c.leave_laid.ensures.seen
