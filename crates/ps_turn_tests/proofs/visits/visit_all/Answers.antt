use Rattle.std.proofs.Common.{◌≡◌, ℕ, List, [], ◌∷◌, ◌++◌, length, take, drop, arith, ap, sym, ◌∙◌, subst}
use Rattle.std.specs.Prelude.{slice_get}
use Rattle.std.proofs.Math.Seq.{take-append_seam}
use Rattle.ps_turn.specs.History.{own}
use Rattle.ps_turn.specs.Seats.{seen_of, number_of, AreAll}
use Rattle.ps_turn.specs.declared.turn.Seat.{Seat}
use Rattle.ps_turn_tests.specs.declared.visits.Visit.{Visit}
use Rattle.ps_turn_tests.specs.declared.visits.Visits.{Visits}
use Rattle.ps_turn.proofs.Owned.{own_later}
use Rattle.ps_turn_tests.proofs.visits.visit_all.Goals as goal

-- a slice that was written whole
written : {X : Type 0} (n : ℕ) (old new : List X) → n ≡ length old → length new ≡ length old → take n (new ++ drop (length new) old) ≡ new
written n old new is same = ap (λ (k : ℕ). take k (new ++ drop (length new) old)) (is ∙ sym same) ∙ take-append_seam new (drop (length new) old)

pub close-requires : goal.close-requires
close-requires g c =
    let before = c.in-Ok.seats.items in
    let after = c.work_all.new.seats in
    let same : length after ≡ length before = c.work_all.auto.seats ∙ ap length c.as_mut_slice.ensures.value in
    subst (λ (l : List (Seat Visits Visit)). AreAll c.in-Ok.turn l) (sym (written c.in-Ok.seats.len before after c.in-Ok.seats.ok.0 same)) c.work_all.ensures.all

pub returns : goal.returns
returns g c =
    let before = c.in-Ok.seats.items in
    let after = c.work_all.new.seats in
    let same : length after ≡ length before = c.work_all.auto.seats ∙ ap length c.as_mut_slice.ensures.value in
    let items = written c.in-Ok.seats.len before after c.in-Ok.seats.ok.0 same in
    let h = c.close.ensures in
    let maker : Visit → ℕ = λ v. v.by in (
      h.0,
      h.1,
      λ k low.
          let s = c.work_all.ensures.all.all k (omega (arith, low, c.in-Ok.ensures.count, c.in-Ok.ensures.seats.all)) in
          let did = c.work_all.ensures.visited s.0 s.1 s.2 in
          let number : s.0 ≡ k = sym did.0 ∙ s.3 in
          let later = own_later maker (number_of s.1) (seen_of s.1) h.0 (h.2 s.0 s.1 (ap (λ l. slice_get l s.0) items ∙ s.2)) in
          let at_k : own maker k h.0 ≡ own maker k (seen_of s.1) = subst (λ (n : ℕ). own maker n h.0 ≡ own maker n (seen_of s.1)) s.3 later in
          at_k ∙ subst (λ (n : ℕ). own maker n (seen_of s.1) ≡ record { by = n } ∷ []) number did.1,
    )
