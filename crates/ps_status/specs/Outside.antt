-- What a world tells of its objects.
use Rattle.std.specs.Prelude.{◌≡◌, ◌⊎◌, ℕ, List, Result, Err}
use Rattle.ps_disk.specs.declared.device.Disk.{Ghosts as DiskGhosts}
use Rattle.ps_io.specs.declared.world.World.{Ghosts}
use Rattle.ps_io.specs.Held.{Held, HeldClock, HeldStore, Same, SameLefts}
use Rattle.ps_status.specs.declared.status.Status.{Status}
use Rattle.ps_status.specs.declared.status.Status.TheVariants.{OpenFault, Memory}

-- what it holds under each name as a source, a sink, a clock and a store
pub record Outside : Type 0 where
  pub sources : List ℕ → Held
  pub sinks : List ℕ → Held
  pub clocks : List ℕ → HeldClock
  pub stores : List ℕ → HeldStore

abbrev pub outside : {S R K D C : Type 0} → Ghosts S R K D C → S → Outside
outside w s = record { sources = w.sources s; sinks = w.sinks s; clocks = w.clocks s; stores = w.stores s }

-- what a disk tells, as it is held under a name
abbrev pub held_as : {D : Type 0} → DiskGhosts D → D → HeldStore
held_as g d =
    record {
      faults = g.faults d;
      seen = g.seen d;
      synced = g.synced d;
      written = g.written d;
      moment = g.moment d;
      syncs = g.syncs d;
    }

-- no source, sink and clock has changed
pub record SameStreams (old new : Outside) : Type 0 where
  pub same_sources : Same old.sources new.sources
  pub same_sinks : Same old.sinks new.sinks
  pub same_clocks : Same old.clocks new.clocks

-- an opening failed, or memory ran out before the store was touched: nothing has changed
pub record Untouched (old new : Outside) (lefts lefts_now : List ℕ → ℕ → List ℕ → Type 0) (st : Status) : Type 0 where
  pub same : SameStreams old new
  pub stores : Same old.stores new.stores
  pub lefts_same : SameLefts lefts lefts_now
  pub status : (st ≡ OpenFault) ⊎ (st ≡ Memory)

-- that is what came of a command
abbrev pub WasRefused : {T : Type 0} → Outside → Outside → (List ℕ → ℕ → List ℕ → Type 0) → (List ℕ → ℕ → List ℕ → Type 0)
    → Result T Status → Type 0
WasRefused old new lefts lefts_now came = (st : Status) × (came ≡ Err st) × Untouched old new lefts lefts_now st
