-- What a run does to the world.
use Rattle.std.specs.Prelude.{◌≡◌, ◌⊎◌, ℕ, List, [], ◌∷◌, length, Option, Some, None, slice_get}
use Rattle.ps_disk.specs.declared.device.Disk.{Ghosts as DiskGhosts}
use Rattle.ps_io.specs.Held.{HeldStore, Same, SameBut, SameLefts, SameLeftsBut}
use Rattle.ps_io.specs.declared.world.Kind.TheVariants.{Source, Sink, Clock, Store}
use Rattle.ps_io.specs.declared.world.OpenCall.{OpenCall}
use Rattle.ps_endpoints.specs.Ports.{SameOthers, port_openings}
use Rattle.ps_commands.specs.declared.command.Command.{Command}
use Rattle.ps_commands.specs.declared.command.Command.TheVariants.{Serve, Rehearse, Compact, Explain, Readers, Feed, Follow, Mirror}
use Rattle.ps_args.specs.declared.command.Stream.{Stream}
use Rattle.ps_args.specs.Words.{hosts_of}
use Rattle.ps_workers.specs.Headline.{Worked}
use Rattle.ps_serve.specs.Headline.{Headline, Idle}
use Rattle.ps_serve.specs.Compacting.{LeavesOtherStores, Pair}
use Rattle.ps_audit_command.specs.Auditing.{store_openings, store_touches}
use Rattle.ps_follow_command.specs.Feeding.{feed_openings, feed_touches}
use Rattle.ps_follow_command.specs.Following.{follow_openings, follow_touches}
use Rattle.ps_mirror_command.specs.Mirroring.{mirror_openings, mirror_touches}
use Rattle.ps_status.specs.Leaving.{LeavesBut}
use Rattle.ps_serve.specs.Worked.{IsWorkedIn}
use Rattle.ps_status.specs.Outside.{Outside, SameStreams, Untouched, held_as}
use Rattle.ps_status.specs.declared.status.Status.{Status}
use Rattle.ps_status.specs.declared.status.Status.TheVariants as status

-- the service host, the name of its store, and the streams that are served
pub record Served : Type 0 where
  pub service : List ℕ
  pub store : List ℕ
  pub streams : List Stream

abbrev pub served_by : Option Command → Option Served
served_by (Some (Serve service store streams)) =
    Some (record { service = service; store = store; streams = streams })
served_by command = None

-- ---- openings

-- the store is opened first, then each stream's source, sink and clock, or the new store, in the order of the words
abbrev pub openings_of : Option Command → List OpenCall
openings_of None = []
openings_of (Some (Serve service store streams)) = record { kind = Store; name = store } ∷ port_openings streams
openings_of (Some (Rehearse seed count)) = []
openings_of (Some (Compact store new)) =
    record { kind = Store; name = store } ∷ record { kind = Store; name = new } ∷ []
openings_of (Some (Explain words)) = store_openings words.store
openings_of (Some (Readers words)) = store_openings words.store
openings_of (Some (Feed words)) = feed_openings words
openings_of (Some (Follow words)) = follow_openings words
openings_of (Some (Mirror words)) = mirror_openings words

-- ---- what comes of it

-- no line came; the store is told of as it was before and as it is now
pub record RanIdle (tells : Type 0) (service : List ℕ) (old new : Outside) (before now : HeldStore)
    (left : ℕ → List ℕ → Type 0) (st : Status) : Type 0 where
  pub same : SameStreams old new
  pub idle : Idle tells service before now left st

-- the streams were served
pub record RanServing (tells : Type 0) (service : List ℕ) (streams : List Stream) (old new : Outside)
    (before now : HeldStore) (left : ℕ → List ℕ → Type 0) (st : Status) : Type 0 where
  pub worked : List Worked
  pub size : length worked ≡ length streams
  pub told : (i : ℕ) (stream : Stream) (t : Worked) → slice_get streams i ≡ Some stream
      → slice_get worked i ≡ Some t → IsWorkedIn old new stream t
  pub headline : Headline tells service (hosts_of streams) worked before now left st

-- the one or the other
abbrev pub Ran : Type 0 → List ℕ → List Stream → Outside → Outside → HeldStore → HeldStore → (ℕ → List ℕ → Type 0)
    → Status → Type 0
Ran tells service streams old new before now left st =
    RanIdle tells service old new before now left st ⊎ RanServing tells service streams old new before now left st

-- or nothing was done
abbrev pub Runs : Type 0 → Outside → Outside → (List ℕ → ℕ → List ℕ → Type 0) → (List ℕ → ℕ → List ℕ → Type 0)
    → Status → Served → Type 0
Runs tells old new lefts lefts_now st s =
    Untouched old new lefts lefts_now st
    ⊎ Ran tells s.service s.streams old new (old.stores s.store) (new.stores s.store) (lefts_now s.store) st

-- ---- between the opening of the store and its giving back

-- no stream was opened, and the disk is as it was
pub record NotOpened {D : Type 0} (old new : Outside) (disk disk_now : D) (st : Status) : Type 0 where
  pub same : SameStreams old new
  pub same_disk : disk_now ≡ disk
  pub status : (st ≡ status.OpenFault) ⊎ (st ≡ status.Memory)

abbrev pub RanOver : {D : Type 0} → DiskGhosts D → List ℕ → List Stream → Outside → Outside → D → D → Status → Type 0
RanOver g service streams old new disk disk_now st =
    NotOpened old new disk disk_now st
    ⊎ Ran g.tells service streams old new (held_as g disk) (held_as g disk_now) (g.left_since disk_now) st

-- ---- what else there is in the world

-- no other source, sink, clock and store has changed
pub record LeavesOthers (s : Served) (old new : Outside) (lefts lefts_now : List ℕ → ℕ → List ℕ → Type 0) : Type 0 where
  pub other_sources : SameOthers Source s.streams old.sources new.sources
  pub other_sinks : SameOthers Sink s.streams old.sinks new.sinks
  pub other_clocks : SameOthers Clock s.streams old.clocks new.clocks
  pub other_stores : SameBut s.store old.stores new.stores
  pub other_lefts : SameLeftsBut s.store lefts lefts_now

-- where nothing is served, none has
pub record LeavesAll (old new : Outside) (lefts lefts_now : List ℕ → ℕ → List ℕ → Type 0) : Type 0 where
  pub same : SameStreams old new
  pub all_stores : Same old.stores new.stores
  pub all_lefts : SameLefts lefts lefts_now

-- by what is served or compacted
abbrev pub Leaves : Option Command → Outside → Outside → (List ℕ → ℕ → List ℕ → Type 0)
    → (List ℕ → ℕ → List ℕ → Type 0) → Type 0
Leaves None old new lefts lefts_now = LeavesAll old new lefts lefts_now
Leaves (Some (Serve service store streams)) old new lefts lefts_now =
    LeavesOthers (record { service = service; store = store; streams = streams }) old new lefts lefts_now
Leaves (Some (Rehearse seed count)) old new lefts lefts_now = LeavesAll old new lefts lefts_now
Leaves (Some (Compact store new_store)) old new lefts lefts_now =
    LeavesOtherStores (record { store = store; new = new_store }) old new lefts lefts_now
Leaves (Some (Explain words)) old new lefts lefts_now = LeavesBut (store_touches words.store) old new lefts lefts_now
Leaves (Some (Readers words)) old new lefts lefts_now = LeavesBut (store_touches words.store) old new lefts lefts_now
Leaves (Some (Feed words)) old new lefts lefts_now = LeavesBut (feed_touches words) old new lefts lefts_now
Leaves (Some (Follow words)) old new lefts lefts_now = LeavesBut (follow_touches words) old new lefts lefts_now
Leaves (Some (Mirror words)) old new lefts lefts_now = LeavesBut (mirror_touches words) old new lefts lefts_now
