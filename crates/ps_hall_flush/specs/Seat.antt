-- What a call says of its seat.
use Rattle.std.specs.Prelude.{◌≡◌, ◌<◌, ◌≤◌, ◌⊎◌, ◌^◌, List, ◌++◌, length}
use Rattle.ps_turn.specs.History.{AllBy}
use Rattle.ps_twin.specs.declared.twin.TwinSeat.{TwinSeat}
use Rattle.ps_twin.specs.declared.twin.Twin.{Twin}
use Rattle.ps_twin.specs.Seats.{seen_of, number_of, list_of, firm_of, mark_of, known_of, IsSeatOf, IsFree, IsOut, HasJournal, HasState, HoldsJournal, GaveState}
use Rattle.ps_disk.specs.declared.device.Disk.{Ghosts}
use Rattle.ps_trace.specs.declared.deed.Deed.{Deed}
use Rattle.ps_hall_state.specs.declared.state.State.{State}
use Rattle.ps_hall_store.specs.Stand as store
use Rattle.ps_hall_store.specs.declared.store.Store.{Store}
use Rattle.ps_hall_flush.specs.Origin.{Origin}
use Rattle.ps_hall_flush.specs.Homes.{maker_of, HomeStands, ArchiveStands, WithinStore, state_mark, store_mark}

module _ {V J : Type 0} where
  -- a call may be made with the seat
  pub record MayCall (t : Twin V J Deed) (s : TwinSeat V J Deed) : Type 0 where
    pub twin : IsSeatOf t s
    pub free : IsFree s

  -- the state may be given back with these deeds
  pub record MayNote (o : Origin) (t : Twin V J Deed) (s : TwinSeat V J Deed) (v : State) (added wanted : List Deed) : Type 0 where
    pub same : added ≡ wanted
    pub twin : IsSeatOf t s
    pub held : HasState s
    pub stands : HomeStands o v (seen_of s ++ added)
    pub own : AllBy maker_of (number_of s) added
    pub few : length added < 2 ^ 63
    pub firm : v.flushed ≤ known_of s
    pub mark : HoldsJournal s ⊎ (state_mark v ≡ mark_of s)

  -- the seat after it gave the state back
  pub record HasLeft (t : Twin V J Deed) (old new : TwinSeat V J Deed) (v : State) (added : List Deed) : Type 0 where
    pub twin : IsSeatOf t new
    pub number : number_of new ≡ number_of old
    pub out : IsOut new
    pub seen : seen_of new ≡ seen_of old ++ added
    pub known : known_of new ≡ known_of old
    pub mark : mark_of new ≡ state_mark v
    pub hand : GaveState old new

  -- the journal is in the seat's hand
  pub record HoldsStore {D : Type 0} {g : Ghosts D} (o : Origin) (t : Twin V J Deed) (s : TwinSeat V J Deed) (y : Store D g) : Type 0 where
    pub twin : IsSeatOf t s
    pub held : HasJournal s
    pub stands : ArchiveStands o y (list_of s)
    pub within : WithinStore o y (list_of s)
    pub firm : firm_of s ≡ store.firm_of y
    pub mark : mark_of s ≡ store_mark y
