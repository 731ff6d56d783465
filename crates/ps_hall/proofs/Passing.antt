-- A pass over one holding of the state.
use Rattle.std.proofs.Common.{◌≡◌, ℕ, List, ◌∙◌}
use Rattle.ps_twin.specs.declared.twin.TwinSeat.{TwinSeat}
use Rattle.ps_twin.specs.declared.twin.Twin.{Twin}
use Rattle.ps_twin.specs.Seats.{seen_of, number_of, TookState}
use Rattle.ps_trace.specs.Own.{AreOwned, IsReaderOf, IsWriterOf}
use Rattle.ps_trace.specs.declared.deed.Deed.{Deed}
use Rattle.ps_hall_state.specs.declared.state.State.{State}
use Rattle.ps_hall.specs.Calls.{IsPass, IsReader, IsWriter}
use Rattle.ps_hall_flush.specs.Origin.{Origin}
use Rattle.ps_hall_flush.specs.Seat.{HasLeft, MayCall}
use Rattle.ps_hall_flush.proofs.Seating.{free_kept}

module _ {V J : Type 0} (o : Origin) (t : Twin V J Deed) (at : ℕ) (host : List ℕ) where
  pub reads_at : (s : TwinSeat V J Deed) (k : ℕ) → k ≡ number_of s → IsReader o t at host s → IsReaderOf o.hosts k host
  reads_at s k same is = (at, is.pass.here, same ∙ is.number)

  pub writes_at : (s : TwinSeat V J Deed) (k : ℕ) → k ≡ number_of s → IsWriter o t at host s → IsWriterOf o.hosts k host
  writes_at s k same is = (at, is.pass.here, same ∙ is.number)

  pub pass_on : (s0 s1 s2 : TwinSeat V J Deed) (v : State) (added : List Deed) → IsPass o t at host s0 → TookState s0 s1 → HasLeft t s1 s2 v added → AreOwned o.hosts (seen_of s2)
      → IsPass o t at host s2
  pass_on s0 s1 s2 v added is took left owned = record {
    call = record { twin = left.twin; free = free_kept t s0 s1 s2 v added took left is.call.free };
    here = is.here;
    owned = owned;
  }

  pub reader_on : (s0 s1 s2 : TwinSeat V J Deed) (v : State) (added : List Deed) → IsReader o t at host s0 → number_of s1 ≡ number_of s0 → TookState s0 s1 → HasLeft t s1 s2 v added
      → AreOwned o.hosts (seen_of s2) → IsReader o t at host s2
  reader_on s0 s1 s2 v added is number took left owned = record { pass = pass_on s0 s1 s2 v added is.pass took left owned; number = left.number ∙ (number ∙ is.number) }

  pub writer_on : (s0 s1 s2 : TwinSeat V J Deed) (v : State) (added : List Deed) → IsWriter o t at host s0 → number_of s1 ≡ number_of s0 → TookState s0 s1 → HasLeft t s1 s2 v added
      → AreOwned o.hosts (seen_of s2) → IsWriter o t at host s2
  writer_on s0 s1 s2 v added is number took left owned = record { pass = pass_on s0 s1 s2 v added is.pass took left owned; number = left.number ∙ (number ∙ is.number) }

  -- over a flush
  pub pass_after : (s0 s1 : TwinSeat V J Deed) → IsPass o t at host s0 → MayCall t s1 → AreOwned o.hosts (seen_of s1) → IsPass o t at host s1
  pass_after s0 s1 is call owned = record { call = call; here = is.here; owned = owned }

  pub reader_after : (s0 s1 : TwinSeat V J Deed) → IsReader o t at host s0 → IsPass o t at host s1 → number_of s1 ≡ number_of s0 → IsReader o t at host s1
  reader_after s0 s1 is pass number = record { pass = pass; number = number ∙ is.number }

  pub writer_after : (s0 s1 : TwinSeat V J Deed) → IsWriter o t at host s0 → IsPass o t at host s1 → number_of s1 ≡ number_of s0 → IsWriter o t at host s1
  writer_after s0 s1 is pass number = record { pass = pass; number = number ∙ is.number }
