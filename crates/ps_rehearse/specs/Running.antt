-- What a run over an empty store leaves.
use Rattle.std.specs.Prelude.{◌≡◌, ℕ, List, [], length}
use Rattle.ps_disk.specs.declared.device.Disk.{Ghosts as DiskGhosts}
use Rattle.ps_endpoints.specs.declared.port.Port.{Port}
use Rattle.ps_workers.specs.Origin.{Origin}
use Rattle.ps_workers.specs.Limits.{Limits}
use Rattle.ps_hall_store.specs.Stand.{OpenedAt, disk_in, length_in}
use Rattle.ps_hall_store.specs.declared.store.Store.{Store}
use Rattle.ps_workers.specs.Headline.{Serves, Worked}
use Rattle.ps_workers.specs.declared.serving.Ended.{Ended}
use Rattle.ps_rehearse.specs.declared.running.Ran.{Ran}

-- as long as any store may become
abbrev pub the_limits : Limits
the_limits = record { changes = 1073741824; whole = 1073741824 }

-- the disk tells its content, which is none, and nothing was done with it
pub record IsEmpty {D : Type 0} (g : DiskGhosts D) (disk : D) : Type 0 where
  pub tells : g.tells
  pub seen : g.seen disk ≡ []
  pub synced : g.synced disk ≡ []
  pub written : g.written disk ≡ []
  pub moment : g.moment disk ≡ 0

-- what stood when a store was opened over such a disk
abbrev pub at_of : {D : Type 0} {g : DiskGhosts D} → Store D g → OpenedAt
at_of {D} {g} y =
    record { moment = g.moment (disk_in y); faults = g.faults (disk_in y); bytes = length_in y; start = 0; seen = []; synced = []; written = [] }

module _ {D L C K : Type 0} {g : DiskGhosts D} (works : List (Port L C K) → List (Ended L C K) → List Worked) where
  -- all streams were served in a hall over what the origin names
  pub record HasRun (o : Origin) (ports : List (Port L C K)) (r : Ran D L C K g) : Type 0 where
    pub size : length r.ended.items ≡ length ports
    pub serves : Serves o r.state r.store (works ports r.ended.items)

  -- which is an empty store of the service
  pub record RanEmpty (service : List ℕ) (hosts : List (List ℕ)) (ports : List (Port L C K)) (r : Ran D L C K g) : Type 0 where
    pub origin : Origin
    pub hosts_are : origin.hosts ≡ hosts
    pub list : origin.list ≡ []
    pub boot : origin.boot ≡ service
    pub limits : origin.limits ≡ the_limits
    pub run : HasRun origin ports r
