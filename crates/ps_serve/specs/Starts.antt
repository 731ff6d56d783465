-- A disk before it is opened.
use Rattle.std.specs.Prelude.{ℕ, List}
use Rattle.ps_disk.specs.declared.device.Disk.{Ghosts}
use Rattle.ps_hall_store.specs.Stand.{OpenedAt, disk_in, length_in}
use Rattle.ps_hall_store.specs.declared.store.Store.{Store}

-- its moment, what a read of it gives, what stood there at its last sync, and the ranges written since
pub record Start : Type 0 where
  pub moment : ℕ
  pub seen : List ℕ
  pub synced : List ℕ
  pub written : List (ℕ × ℕ)

abbrev pub start_of : {D : Type 0} → Ghosts D → D → Start
start_of g d = record { moment = g.moment d; seen = g.seen d; synced = g.synced d; written = g.written d }

-- what stood when a store was opened over a disk that was so
abbrev pub at_of : {D : Type 0} {g : Ghosts D} → Start → Store D g → OpenedAt
at_of {D} {g} start y =
    record {
      moment = g.moment (disk_in y);
      faults = g.faults (disk_in y);
      bytes = length_in y;
      start = start.moment;
      seen = start.seen;
      synced = start.synced;
      written = start.written;
    }
