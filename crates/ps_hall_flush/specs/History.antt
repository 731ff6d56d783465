-- The list of entries, read again.
use Rattle.std.specs.Prelude.{◌≡◌, ◌⊎◌, ℕ, ◌≤◌, List, length}
use Rattle.ps_types.specs.declared.entry.Entry.{Entry}
use Rattle.ps_journal.specs.declared.journal.EntriesRefusal.{EntriesRefusal}
use Rattle.ps_journal.specs.declared.journal.EntriesRefusal.TheVariants.{Memory, Store}
use Rattle.ps_twin.specs.declared.twin.TwinSeat.{TwinSeat}
use Rattle.ps_twin.specs.Seats.{seen_of, number_of, known_of}
use Rattle.ps_twin.specs.Twins.{Prefix}
use Rattle.ps_trace.specs.declared.deed.Deed.{Deed}
use Rattle.ps_hall_flush.specs.Doing.{Passes}
use Rattle.ps_hall_flush.specs.Flush.{Flushes, NotFlushed}
use Rattle.ps_hall_flush.specs.Homes.{world_at}
use Rattle.ps_hall_flush.specs.Origin.{Origin}

-- the entries are those of a front of the deeds, of so many at least
pub record ReadOf (o : Origin) (Tells : Type 0) (least : ℕ) (log : List Deed) (entries : List Entry) : Type 0 where
  pub front : List Deed
  pub is : Prefix front log
  pub enough : least ≤ length front
  pub list : Tells → entries ≡ (world_at o front).entries

-- others added deeds, and there was no memory, or the disk failed
abbrev pub NotRead : Origin → ℕ → List Deed → List Deed → EntriesRefusal → Type 0
NotRead o k old new Memory = Passes o k old new
NotRead o k old new Store = NotFlushed o k old new

-- ---- behind a flush

-- All that the pass had seen is flushed, and then read: the entries are those of a front of what it then has seen, in which is all that, so they begin with
-- the entries of what it had seen.
pub record HasHistory (o : Origin) (k : ℕ) (Tells : Type 0) (old new : List Deed) (entries : List Entry) : Type 0 where
  pub mid : List Deed
  pub flush : Flushes o k old mid
  pub passed : Passes o k mid new
  pub read : ReadOf o Tells (length old) new entries
  pub begins : Tells → Prefix (world_at o old).entries entries

abbrev pub NoHistory : Origin → ℕ → List Deed → List Deed → EntriesRefusal → Type 0
NoHistory o k old new e = ((e ≡ Store) × NotFlushed o k old new) ⊎ ((mid : List Deed) × Flushes o k old mid × NotRead o k mid new e)

module _ {V J : Type 0} where
  -- the same, by the pass of a seat
  pub record SeatRead (o : Origin) (Tells : Type 0) (old new : TwinSeat V J Deed) (entries : List Entry) : Type 0 where
    pub passed : Passes o (number_of old) (seen_of old) (seen_of new)
    pub read : ReadOf o Tells (known_of old) (seen_of new) entries

  abbrev pub SeatNotRead : Origin → TwinSeat V J Deed → TwinSeat V J Deed → EntriesRefusal → Type 0
  SeatNotRead o old new e = NotRead o (number_of old) (seen_of old) (seen_of new) e

  abbrev pub SeatHistory : Origin → Type 0 → TwinSeat V J Deed → TwinSeat V J Deed → List Entry → Type 0
  SeatHistory o Tells old new entries = HasHistory o (number_of old) Tells (seen_of old) (seen_of new) entries

  abbrev pub SeatNoHistory : Origin → TwinSeat V J Deed → TwinSeat V J Deed → EntriesRefusal → Type 0
  SeatNoHistory o old new e = NoHistory o (number_of old) (seen_of old) (seen_of new) e
