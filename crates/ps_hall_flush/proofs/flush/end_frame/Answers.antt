use Rattle.std.proofs.Common.{◌≡◌, refl, ◌∙◌, sym, arith, inr, [], ◌∷◌}
use Rattle.ps_model.specs.declared.steps.Step.TheVariants.{Flush}
use Rattle.ps_trace.specs.Own.{deeds}
use Rattle.ps_twin.specs.Seats.{seen_of, known_of, number_of}
use Rattle.ps_hall_flush.specs.Homes.{bytes_in, world_at}
use Rattle.ps_hall_flush.proofs.Framing.{low_firm, settled}
use Rattle.ps_hall_flush.proofs.Homing.{did_by, home_few, may_note}
use Rattle.ps_hall_flush.proofs.Marking.{same_mark}
use Rattle.ps_hall_flush.proofs.Quiet.{stays_quiet}
use Rattle.ps_hall_flush.proofs.Seating.{free_kept}
use Rattle.ps_hall_flush.proofs.flush.end_frame.Goals as goal

pub settle-requires : goal.settle-requires
settle-requires g c = record { few = home_few g.B.Opening.origin c.enter-home.result.state (seen_of c.enter-home.new.seat) c.enter-home.ensures.value c.enter-home.ensures.few }

pub leave_flushed-requires : goal.leave_flushed-requires
leave_flushed-requires g c κs within =
    let o = g.B.Opening.origin in
    let e = c.enter-home.ensures in
    let x = c.settle.ensures in
    let s0 = c.args.seat.now in
    let s = c.enter-home.new.seat in
    let v = c.enter-home.result.state in
    let now = c.settle.new.self in
    let stands = settled o v now c.args.upto c.args.count (seen_of s0) (seen_of s) e.value (e.later.0, e.later.1) c.requires.upto_is c.requires.count_is x.goes in
    let same = stays_quiet o.boot v now (world_at o (seen_of s)) (Flush c.args.upto ∷ []) (tt, tt) e.value.stands stands in (
      within.0,
      (
        within.1,
        (
          e.twin,
          may_note o c.args.twin.now s v now (Flush c.args.upto ∷ []) e.twin e.held e.value x.mark.hosts x.mark.limits x.mark.count x.mark.length_same
              (low_firm now.flushed v.flushed c.args.upto (known_of s0) (known_of s) x.firm c.requires.known e.known e.firm) (inr (same_mark v now x.mark same ∙ sym e.mark)) (tt, tt)
              (λ le. ((omega arith, tt), tt)) (omega arith) stands,
        ),
      ),
    )

pub returns-clause-call : goal.returns-clause-call
returns-clause-call g c =
    let l = c.leave_flushed.ensures in
    record {
      twin = l.twin;
      free = free_kept c.args.twin.now c.args.seat.now c.enter-home.new.seat c.leave_flushed.new.seat c.settle.new.self
          (deeds (number_of c.enter-home.new.seat) (bytes_in c.settle.new.self) (Flush c.args.upto ∷ [])) c.enter-home.ensures.hand l c.requires.call.free;
    }

pub returns-clause-added : goal.returns-clause-added
returns-clause-added g c =
    let e = c.enter-home.ensures in
    did_by g.B.Opening.origin c.args.seat.now c.enter-home.new.seat c.leave_flushed.new.seat c.enter-home.result.state c.settle.new.self (Flush c.args.upto ∷ [])
    (λ w steps. steps ≡ Flush c.args.upto ∷ []) e.number e.later e.value (tt, tt) c.leave_flushed.ensures.seen refl
