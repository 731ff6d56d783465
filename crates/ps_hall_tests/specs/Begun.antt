-- What a hall of the tests begins with.
use Rattle.std.specs.Prelude.{ℕ, List, [], ◌∷◌, codes}
use Rattle.ps_disk.specs.declared.device.Disk.{Ghosts}
use Rattle.ps_types.specs.declared.entry.Entry.{Entry}
use Rattle.ps_hall_open.specs.Opens.{at_from}
use Rattle.ps_hall_flush.specs.Origin.{Origin}
use Rattle.ps_hall_state.specs.declared.state.State.{State}
use Rattle.ps_hall_store.specs.declared.store.Store.{Store}

-- the hosts
abbrev pub are_one : List (List ℕ)
are_one = codes "a.example" ∷ []

-- a store that had these entries on this disk, with this state and store after its Boot
abbrev pub origin_of : {D : Type 0} {g : Ghosts D} → D → List (List ℕ) → List ℕ → List Entry → State → Store D g → Origin
origin_of disk hosts service entries v y =
    record { hosts = hosts; list = entries; boot = service; limits = v.limits; at = at_from disk y }
