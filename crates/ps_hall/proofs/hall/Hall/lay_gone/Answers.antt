use Rattle.std.proofs.Common.{List, ℕ, subst}
use Rattle.ps_trace.specs.Own.{deeds}
use Rattle.ps_twin.specs.Seats.{seen_of, number_of}
use Rattle.ps_hall.specs.Calls.{LayGoneDoes}
use Rattle.ps_hall.specs.Ending.{LaysOrEnds}
use Rattle.ps_hall_flush.specs.Homes.{bytes_in}
use Rattle.ps_hall.specs.Steps.{gone_steps}
use Rattle.ps_hall_flush.proofs.Homing.{did_by, home_few, home_here, home_row, home_standing, notes}
use Rattle.ps_hall.proofs.Passing.{reader_on, reads_at}
use Rattle.ps_hall.proofs.Recording.{bytes_grow, gone_does, gone_few, gone_over, gone_owned, gone_quiet, gone_rooms, gone_stands}
use Rattle.ps_hall.proofs.hall.Hall.lay_gone.Goals as goal

pub gone_or_end-outcome-requires-clause-here : goal.gone_or_end-outcome-requires-clause-here
gone_or_end-outcome-requires-clause-here g c κs within = home_here g.B.Opening.origin c.enter-home.result.state (seen_of c.enter-home.new.seat) c.args.pass.now.at c.args.pass.now.host
    c.enter-home.ensures.value c.requires.reader.pass.here

pub gone_or_end-outcome-requires-clause-few : goal.gone_or_end-outcome-requires-clause-few
gone_or_end-outcome-requires-clause-few g c κs within = home_few g.B.Opening.origin c.enter-home.result.state (seen_of c.enter-home.new.seat) c.enter-home.ensures.value c.enter-home.ensures.few

pub gone_or_end-outcome-requires-clause-standing : goal.gone_or_end-outcome-requires-clause-standing
gone_or_end-outcome-requires-clause-standing g c κs within = home_standing g.B.Opening.origin c.enter-home.result.state (seen_of c.enter-home.new.seat) c.enter-home.ensures.value

pub leave_gone-requires : goal.leave_gone-requires
leave_gone-requires g c κs within =
    let o = g.B.Opening.origin in
    let e = c.enter-home.ensures in
    let x = c.gone_or_end-outcome.ensures in
    let s = c.enter-home.new.seat in
    let v = c.enter-home.result.state in
    let now = c.gone_or_end-outcome.new.state in
    let host = c.args.pass.now.host in
    let result = c.gone_or_end-outcome.result in
    let row = home_row o v (seen_of s) c.args.pass.now.at host e.value c.requires.reader.pass.here in
    let did = subst (λ (h : List ℕ). LaysOrEnds v now h result) row.2 (x.does row.0 row.1) in (
      within.0,
      (
        within.1,
        (
          e.twin,
          notes o c.args.self.now.twin s v now (gone_steps host result) e.twin e.held e.value e.firm e.mark x.kept (gone_quiet host result)
              (gone_owned o.hosts (number_of s) (bytes_in now) host result (reads_at o c.args.self.now.twin c.args.pass.now.at host c.args.pass.now.seat (number_of s) e.number c.requires.reader))
              (λ le. gone_rooms o v now (seen_of s) e.value (number_of s) host result) (gone_few host result) (gone_stands o v now (seen_of s) e.value host result did),
        ),
      ),
    )

pub returns-clause-does : goal.returns-clause-does
returns-clause-does g c =
    let o = g.B.Opening.origin in
    let e = c.enter-home.ensures in
    let x = c.gone_or_end-outcome.ensures in
    let s = c.enter-home.new.seat in
    let v = c.enter-home.result.state in
    let now = c.gone_or_end-outcome.new.state in
    let host = c.args.pass.now.host in
    let result = c.gone_or_end-outcome.result in
    let row = home_row o v (seen_of s) c.args.pass.now.at host e.value c.requires.reader.pass.here in
    let did = subst (λ (h : List ℕ). LaysOrEnds v now h result) row.2 (x.does row.0 row.1) in
    did_by o c.args.pass.now.seat s c.leave_gone.new.seat v now (gone_steps host result) (LayGoneDoes o host result) e.number e.later e.value
    (gone_owned o.hosts (number_of s) (bytes_in now) host result (reads_at o c.args.self.now.twin c.args.pass.now.at host c.args.pass.now.seat (number_of s) e.number c.requires.reader))
    c.leave_gone.ensures.seen (gone_does o v now (seen_of s) e.value host result did)

pub returns-clause-over : goal.returns-clause-over
returns-clause-over g c =
    let o = g.B.Opening.origin in
    let e = c.enter-home.ensures in
    let x = c.gone_or_end-outcome.ensures in
    let s = c.enter-home.new.seat in
    let v = c.enter-home.result.state in
    let now = c.gone_or_end-outcome.new.state in
    let host = c.args.pass.now.host in
    let result = c.gone_or_end-outcome.result in
    let row = home_row o v (seen_of s) c.args.pass.now.at host e.value c.requires.reader.pass.here in
    let did = subst (λ (h : List ℕ). LaysOrEnds v now h result) row.2 (x.does row.0 row.1) in
    let owned = gone_owned o.hosts (number_of s) (bytes_in now) host result (reads_at o c.args.self.now.twin c.args.pass.now.at host c.args.pass.now.seat (number_of s) e.number c.requires.reader) in
    gone_over o v now (seen_of s) e.value (number_of s) host result (seen_of c.leave_gone.new.seat) did
    (bytes_grow o v now (seen_of s) e.value (number_of s) (gone_steps host result) (gone_stands o v now (seen_of s) e.value host result did) owned x.kept) c.leave_gone.ensures.seen

pub returns-clause-reader : goal.returns-clause-reader
returns-clause-reader g c =
    let now = c.gone_or_end-outcome.new.state in
    let s = c.enter-home.new.seat in
    reader_on g.B.Opening.origin c.args.self.now.twin c.args.pass.now.at c.args.pass.now.host c.args.pass.now.seat s c.leave_gone.new.seat now
    (deeds (number_of s) (bytes_in now) (gone_steps c.args.pass.now.host c.gone_or_end-outcome.result)) c.requires.reader c.enter-home.ensures.number c.enter-home.ensures.hand c.leave_gone.ensures
    (returns-clause-does g c).owned
