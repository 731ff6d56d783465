use Rattle.std.proofs.Common.{◌≡◌, ◌++◌, refl, ap, ◌∙◌, sym, subst, arith, inl, [], ◌∷◌, List, length}
use Rattle.ps_model.specs.declared.steps.Step.TheVariants.{Broken}
use Rattle.ps_trace.specs.Own.{deeds}
use Rattle.ps_trace.specs.declared.deed.Deed.{Deed}
use Rattle.ps_twin.specs.Seats.{seen_of, number_of, mark_of}
use Rattle.ps_hall_flush.specs.Flush.{IsBrokenAt}
use Rattle.ps_hall_flush.specs.Homes.{AreMeasured, bytes_in, world_at}
use Rattle.ps_hall_flush.proofs.Homing.{broken_home, did_by, home_few, home_steps, may_note}
use Rattle.ps_hall_flush.proofs.Marking.{fault_mark, mark_count}
use Rattle.ps_hall_flush.proofs.Measuring.{measured_as}
use Rattle.ps_hall_flush.proofs.Seating.{firm_kept, holds_on, journal_kept, list_kept}
use Rattle.ps_hall_flush.proofs.flush.tell_fault.Goals as goal

pub fault-requires : goal.fault-requires
fault-requires g c = record { few = home_few g.B.Opening.origin c.enter-home.result.state (seen_of c.enter-home.new.seat) c.enter-home.ensures.value c.enter-home.ensures.few }

pub leave_broken-requires : goal.leave_broken-requires
leave_broken-requires g c κs within =
    let o = g.B.Opening.origin in
    let e = c.enter-home.ensures in
    let x = c.fault.ensures in
    let s = c.enter-home.new.seat in
    let v = c.enter-home.result.state in
    let now = c.fault.new.self in (
      within.0,
      (
        within.1,
        (
          e.twin,
          may_note o c.args.twin.now s v now (Broken ∷ []) e.twin e.held e.value x.kept.hosts x.kept.limits x.kept.count x.kept.length_same
              (let f = x.kept.flushed in let k = e.firm in omega (arith, f, k))
              (inl (holds_on c.args.seat.now s e.hand c.requires.held.1)) (tt, tt) (λ le. ((omega arith, tt), tt)) (omega arith) (x.goes o.boot e.value.named (world_at o (seen_of s)) e.value.stands),
        ),
      ),
    )

pub returns-clause-held : goal.returns-clause-held
returns-clause-held g c = journal_kept c.args.twin.now c.args.seat.now c.enter-home.new.seat c.leave_broken.new.seat c.fault.new.self
    (deeds (number_of c.enter-home.new.seat) (bytes_in c.fault.new.self) (Broken ∷ [])) c.enter-home.ensures.hand c.leave_broken.ensures c.requires.held

pub returns-clause-hand : goal.returns-clause-hand
returns-clause-hand g c =
    let t = c.args.twin.now in
    let s0 = c.args.seat.now in
    let s = c.enter-home.new.seat in
    let s2 = c.leave_broken.new.seat in
    let now = c.fault.new.self in
    let added = deeds (number_of s) (bytes_in now) (Broken ∷ []) in
    let x = c.fault.ensures in
    let marks = c.enter-home.ensures.marked c.requires.held.1 in
    record {
      list = list_kept t s0 s s2 now added c.enter-home.ensures.hand c.leave_broken.ensures;
      firm = firm_kept t s0 s s2 now added c.enter-home.ensures.hand c.leave_broken.ensures;
      mark = c.leave_broken.ensures.mark ∙ fault_mark c.enter-home.result.state now (mark_of s0) x.kept x.broken marks;
    }

pub returns-clause-steps : goal.returns-clause-steps
returns-clause-steps g c =
    let s = c.enter-home.new.seat in
    let now = c.fault.new.self in
    let home = broken_home g.B.Opening.origin c.enter-home.result.state now (seen_of s) (number_of s) c.enter-home.ensures.value c.fault.ensures.kept c.fault.ensures.goes in
    home_steps g.B.Opening.origin now (seen_of s ++ deeds (number_of s) (bytes_in now) (Broken ∷ [])) home ∙ ap length (sym c.leave_broken.ensures.seen)

pub returns-clause-added : goal.returns-clause-added
returns-clause-added g c =
    let e = c.enter-home.ensures in
    did_by g.B.Opening.origin c.args.seat.now c.enter-home.new.seat c.leave_broken.new.seat c.enter-home.result.state c.fault.new.self (Broken ∷ []) (λ w steps. steps ≡ Broken ∷ []) e.number e.later
    e.value (tt, tt) c.leave_broken.ensures.seen refl

pub returns-clause-broken : goal.returns-clause-broken
returns-clause-broken g c =
    let s = c.enter-home.new.seat in
    let now = c.fault.new.self in
    let home = broken_home g.B.Opening.origin c.enter-home.result.state now (seen_of s) (number_of s) c.enter-home.ensures.value c.fault.ensures.kept c.fault.ensures.goes in
    subst (λ (log : List Deed). IsBrokenAt g.B.Opening.origin log) (sym c.leave_broken.ensures.seen)
    (record { owned = home.owned; broken = sym home.stands.broken ∙ c.fault.ensures.broken; sound = home.stands.sound })

pub returns-clause-measured : goal.returns-clause-measured
returns-clause-measured g c few =
    let o = g.B.Opening.origin in
    let s = c.enter-home.new.seat in
    let v = c.enter-home.result.state in
    let now = c.fault.new.self in
    let mark = mark_of c.args.seat.now in
    let marks = c.enter-home.ensures.marked c.requires.held.1 in
    let home = broken_home o v now (seen_of s) (number_of s) c.enter-home.ensures.value c.fault.ensures.kept c.fault.ensures.goes in
    subst (λ (log : List Deed). AreMeasured o mark.0 mark.1 log) (sym c.leave_broken.ensures.seen)
    (measured_as o now.count now.length mark.0 mark.1 (seen_of s ++ deeds (number_of s) (bytes_in now) (Broken ∷ [])) (c.fault.ensures.kept.count ∙ mark_count v mark marks few)
    (c.fault.ensures.kept.length_same ∙ ap (λ m. m.1) marks) home.begun)
