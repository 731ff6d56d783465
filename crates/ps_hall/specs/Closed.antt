-- What the hall gives back at its end.
use Rattle.std.specs.Prelude.{◌≡◌, ◌≤◌, ℕ, false, List, ◌++◌, Some, is_some, slice_get}
use Rattle.ps_disk.specs.declared.device.Disk.{Ghosts}
use Rattle.ps_twin.specs.declared.twin.TwinSeat.{TwinSeat}
use Rattle.ps_twin.specs.Seats.{seen_of, number_of}
use Rattle.ps_twin.specs.Twins.{Prefix}
use Rattle.ps_turn.specs.History.{Later}
use Rattle.ps_trace.specs.declared.deed.Deed.{Deed}
use Rattle.ps_hall_state.specs.Stand.{entries_of}
use Rattle.ps_hall_state.specs.declared.state.State.{State}
use Rattle.ps_hall_store.specs.Stand.{EntriesAreKept, broken_in, disk_in, firm_of, mark_of}
use Rattle.ps_hall_store.specs.declared.store.Store.{Store}
use Rattle.ps_hall_flush.specs.Homes.{ArchiveStands, EachLacksRoom, HomeStands, maker_of, numbers_of, world_at}
use Rattle.ps_hall_flush.specs.Origin.{Origin}

-- The state stands for the deeds of all passes, and the store for a beginning of them. What each pass has seen is a beginning too, behind which nothing is
-- of its own making.
pub record HasClosed {V J D : Type 0} {g : Ghosts D} (o : Origin) (v : State) (y : Store D g) (seats : List (TwinSeat V J Deed)) : Type 0 where
  pub log : List Deed
  pub home : HomeStands o v log
  pub list : List Deed
  pub archive : ArchiveStands o y list
  pub front : Prefix list log
  -- no crash takes a durable entry away; what one leaves now, or might have left at any moment since the opening, is a front of the deeds' entries, and what one
  -- left since before that is such a front, or what it might have left then
  pub kept : g.tells → EntriesAreKept g o.at (disk_in y) v.flushed (world_at o log)
  -- while nothing has failed the store has all entries but those that wait
  pub whole : (world_at o log).broken ≡ false → (world_at o log).entries ≡ (world_at o list).entries ++ entries_of v.batch
  -- what the state counts as flushed the store has made durable
  pub firm : v.flushed ≤ firm_of y
  -- Whatever a crash may leave, what the disk has among it: each line that found no room, at a place that these bytes have, would find none behind them.
  pub room : g.tells → EachLacksRoom o (g.synced (disk_in y)) (g.written (disk_in y)) log
  -- both tell of a fault, or neither; and then both have begun the same frames
  pub broken : v.broken ≡ is_some (broken_in y)
  pub mark : v.broken ≡ false → numbers_of v ≡ mark_of y
  pub later : (k : ℕ) (s : TwinSeat V J Deed) → slice_get seats k ≡ Some s → Later maker_of (number_of s) (seen_of s) log
