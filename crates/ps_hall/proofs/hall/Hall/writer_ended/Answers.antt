use Rattle.std.proofs.Common.{◌≡◌, List, ℕ, arith, refl, subst, [], ◌∷◌}
use Rattle.ps_model.specs.declared.steps.Role.TheVariants.{Writer}
use Rattle.ps_model.specs.declared.steps.Step.TheVariants.{Ended}
use Rattle.ps_trace.specs.Own.{deeds}
use Rattle.ps_twin.specs.Seats.{seen_of, number_of}
use Rattle.ps_hall_state.specs.Steps.{Goes}
use Rattle.ps_hall_flush.specs.Homes.{bytes_in, world_at}
use Rattle.ps_hall_flush.proofs.Homing.{did_by, home_few, home_here, home_row, notes}
use Rattle.ps_hall.proofs.Passing.{writer_on, writes_at}
use Rattle.ps_hall.proofs.hall.Hall.writer_ended.Goals as goal

pub writer_ended-requires-clause-here : goal.writer_ended-requires-clause-here
writer_ended-requires-clause-here g c = home_here g.B.Opening.origin c.enter-home.result.state (seen_of c.enter-home.new.seat) c.args.pass.now.at c.args.pass.now.host c.enter-home.ensures.value
    c.requires.writer.pass.here

pub writer_ended-requires-clause-few : goal.writer_ended-requires-clause-few
writer_ended-requires-clause-few g c = home_few g.B.Opening.origin c.enter-home.result.state (seen_of c.enter-home.new.seat) c.enter-home.ensures.value c.enter-home.ensures.few

pub leave_ended-requires : goal.leave_ended-requires
leave_ended-requires g c κs within =
    let o = g.B.Opening.origin in
    let e = c.enter-home.ensures in
    let x = c.writer_ended.ensures in
    let s = c.enter-home.new.seat in
    let v = c.enter-home.result.state in
    let now = c.writer_ended.new.self in
    let host = c.args.pass.now.host in
    let row = home_row o v (seen_of s) c.args.pass.now.at host e.value c.requires.writer.pass.here in
    let goes = subst (λ (h : List ℕ). Goes v now (Ended h Writer ∷ [])) row.2 (x.goes row.0 row.1) in (
      within.0,
      (
        within.1,
        (
          e.twin,
          notes o c.args.self.now.twin s v now (Ended host Writer ∷ []) e.twin e.held e.value e.firm e.mark x.kept (tt, tt)
              (writes_at o c.args.self.now.twin c.args.pass.now.at host c.args.pass.now.seat (number_of s) e.number c.requires.writer, tt)
              (λ le. ((omega arith, tt), tt)) (omega arith) (goes o.boot e.value.named (world_at o (seen_of s)) e.value.stands),
        ),
      ),
    )

pub returns-clause-ended : goal.returns-clause-ended
returns-clause-ended g c =
    let o = g.B.Opening.origin in
    let e = c.enter-home.ensures in
    let s = c.enter-home.new.seat in
    let host = c.args.pass.now.host in
    did_by o c.args.pass.now.seat s c.leave_ended.new.seat c.enter-home.result.state c.writer_ended.new.self (Ended host Writer ∷ []) (λ w steps. steps ≡ Ended host Writer ∷ []) e.number e.later
    e.value
    (writes_at o c.args.self.now.twin c.args.pass.now.at host c.args.pass.now.seat (number_of s) e.number c.requires.writer, tt) c.leave_ended.ensures.seen refl

pub returns-clause-writer : goal.returns-clause-writer
returns-clause-writer g c =
    let now = c.writer_ended.new.self in
    let s = c.enter-home.new.seat in
    writer_on g.B.Opening.origin c.args.self.now.twin c.args.pass.now.at c.args.pass.now.host c.args.pass.now.seat s c.leave_ended.new.seat now
    (deeds (number_of s) (bytes_in now) (Ended c.args.pass.now.host Writer ∷ [])) c.requires.writer c.enter-home.ensures.number c.enter-home.ensures.hand c.leave_ended.ensures
    (returns-clause-ended g c).owned
