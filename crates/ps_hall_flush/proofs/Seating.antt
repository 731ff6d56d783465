-- A seat over one holding of the state.
use Rattle.std.proofs.Common.{◌≡◌, List, ap, ◌∙◌}
use Rattle.ps_twin.specs.declared.twin.TwinSeat.{TwinSeat}
use Rattle.ps_twin.specs.declared.twin.Twin.{Twin}
use Rattle.ps_twin.specs.Seats.{list_of, firm_of, IsFree, HasJournal, HoldsJournal, TookState}
use Rattle.ps_trace.specs.declared.deed.Deed.{Deed}
use Rattle.ps_hall_state.specs.declared.state.State.{State}
use Rattle.ps_hall_flush.specs.Seat.{HasLeft}

module _ {V J : Type 0} where
  pub holds_on : (s0 s1 : TwinSeat V J Deed) → TookState s0 s1 → HoldsJournal s0 → HoldsJournal s1
  holds_on s0 s1 took holds = ap (λ p. p.stage) took.0.0 ∙ holds

  pub journal_kept : (t : Twin V J Deed) (s0 s1 s2 : TwinSeat V J Deed) (v : State) (added : List Deed) → TookState s0 s1 → HasLeft t s1 s2 v added → HasJournal s0 → HasJournal s2
  journal_kept t s0 s1 s2 v added took left has = (left.out, ap (λ p. p.stage) (left.hand.0.0 ∙ took.0.0) ∙ has.1, left.hand.1 ∙ (took.1 ∙ has.2))

  pub free_kept : (t : Twin V J Deed) (s0 s1 s2 : TwinSeat V J Deed) (v : State) (added : List Deed) → TookState s0 s1 → HasLeft t s1 s2 v added → IsFree s0 → IsFree s2
  free_kept t s0 s1 s2 v added took left has = (left.out, ap (λ p. p.stage) (left.hand.0.0 ∙ took.0.0) ∙ has.1, left.hand.1 ∙ (took.1 ∙ has.2))

  pub list_kept : (t : Twin V J Deed) (s0 s1 s2 : TwinSeat V J Deed) (v : State) (added : List Deed) → TookState s0 s1 → HasLeft t s1 s2 v added → list_of s2 ≡ list_of s0
  list_kept t s0 s1 s2 v added took left = left.hand.0.1 ∙ took.0.1

  pub firm_kept : (t : Twin V J Deed) (s0 s1 s2 : TwinSeat V J Deed) (v : State) (added : List Deed) → TookState s0 s1 → HasLeft t s1 s2 v added → firm_of s2 ≡ firm_of s0
  firm_kept t s0 s1 s2 v added took left = left.hand.0.2 ∙ took.0.2
