-- What a world in memory tells.
use Rattle.std.specs.Prelude.{◌≡◌, ◌≢◌, ◌⊎◌, ◌<◌, ℕ, List, [], length, Some, None, Result, IsErr, IsErrOf, IfErr, OnOk, OnErr, Contains}
use Rattle.std.specs.declared.option.Option.{Option}
use Rattle.ps_base.specs.Causes.{Rose, next_count}
use Rattle.ps_wire.specs.Memory.{SourceView, SinkView}
use Rattle.ps_disk.specs.Calls.{Recorded, state_of, syncs_in, LeftSince}
use Rattle.ps_io.specs.MemClock.{ClockView, told_by}
use Rattle.ps_io.specs.Shelf.{at}
use Rattle.ps_io.specs.Held.{Held, HeldClock, HeldStore}
use Rattle.ps_io.specs.World.{Asks, LastOpening, OpeningHasCause}
use Rattle.ps_io.specs.declared.world.Kind.{Kind}
use Rattle.ps_io.specs.declared.world.Kind.TheVariants.{Source, Sink, Store, Clock}
use Rattle.ps_io.specs.declared.world.OpenCall.{OpenCall}
use Rattle.ps_io.specs.declared.world.WorldRefusal.{WorldRefusal}
use Rattle.ps_io.specs.declared.world.WorldRefusal.TheVariants.{Failed, Memory}
use Rattle.ps_io.specs.declared.mem_world.MemWorld.{MemWorld}

-- what stands under a name: nothing, a place whose object is open, or the object
abbrev pub source_at : MemWorld → List ℕ → Option (Option SourceView)
source_at w name = at w.sources.slots.items name

abbrev pub sink_at : MemWorld → List ℕ → Option (Option SinkView)
sink_at w name = at w.sinks.slots.items name

abbrev pub disk_at : MemWorld → List ℕ → Option (Option Recorded)
disk_at w name = at w.disks.slots.items name

abbrev pub clock_at : MemWorld → List ℕ → Option (Option ClockView)
clock_at w name = at w.clocks.slots.items name

abbrev pub held_source : Option (Option SourceView) → Held
held_source None = record { faults = 0; bytes = None }
held_source (Some None) = record { faults = 0; bytes = None }
held_source (Some (Some s)) = record { faults = s.faults; bytes = Some s.left }

abbrev pub held_sink : Option (Option SinkView) → Held
held_sink None = record { faults = 0; bytes = None }
held_sink (Some None) = record { faults = 0; bytes = None }
held_sink (Some (Some s)) = record { faults = s.faults; bytes = Some s.written }

abbrev pub held_disk : Option (Option Recorded) → HeldStore
held_disk None = record { faults = 0; seen = []; synced = []; written = []; moment = 0; syncs = 0 }
held_disk (Some None) = record { faults = 0; seen = []; synced = []; written = []; moment = 0; syncs = 0 }
held_disk (Some (Some d)) = record { faults = d.faults; seen = (state_of d).seen; synced = (state_of d).synced; written = (state_of d).written; moment = length d.kept; syncs = syncs_in d.kept }

abbrev pub held_left : Option (Option Recorded) → ℕ → List ℕ → Type 0
held_left None t c = ⊥
held_left (Some None) t c = ⊥
held_left (Some (Some d)) t c = LeftSince d t c

-- a clock that wasn't put has no answers
abbrev pub held_clock : Option (Option ClockView) → HeldClock
held_clock None = record { faults = 0; told = Some [] }
held_clock (Some None) = record { faults = 0; told = Some [] }
held_clock (Some (Some c)) = record { faults = c.faults; told = Some (told_by c.answers c.calls) }

abbrev pub sources_of : MemWorld → List ℕ → Held
sources_of w name = held_source (source_at w name)

abbrev pub sinks_of : MemWorld → List ℕ → Held
sinks_of w name = held_sink (sink_at w name)

abbrev pub stores_of : MemWorld → List ℕ → HeldStore
stores_of w name = held_disk (disk_at w name)

abbrev pub lefts_of : MemWorld → List ℕ → ℕ → List ℕ → Type 0
lefts_of w name = held_left (disk_at w name)

abbrev pub clocks_of : MemWorld → List ℕ → HeldClock
clocks_of w name = held_clock (clock_at w name)

abbrev pub IsLent : MemWorld → Kind → List ℕ → Type 0
IsLent w Source name = source_at w name ≡ Some None
IsLent w Sink name = sink_at w name ≡ Some None
IsLent w Store name = disk_at w name ≡ Some None
IsLent w Clock name = clock_at w name ≡ Some None

abbrev pub asked_of : MemWorld → List OpenCall
asked_of w = w.asked.items

abbrev pub reported_of : MemWorld → List ℕ
reported_of w = w.reported.items

-- the numbers of the calls that fail, and how many calls, faults and wants of memory there were
abbrev pub failing_of : MemWorld → List ℕ
failing_of w = w.failing.items

abbrev pub calls_of : MemWorld → ℕ
calls_of w = w.calls

abbrev pub refused_of : MemWorld → ℕ
refused_of w = w.refused

-- what an opening does before it looks for its object
pub record StartsOpening (old new : MemWorld) (kind : Kind) (name : List ℕ) (result : Result (Unit {0}) WorldRefusal) : Type 0 where
  pub sources : new.sources.slots.items ≡ old.sources.slots.items
  pub sinks : new.sinks.slots.items ≡ old.sinks.slots.items
  pub disks : new.disks.slots.items ≡ old.disks.slots.items
  pub clocks : new.clocks.slots.items ≡ old.clocks.slots.items
  pub reported : new.reported.items ≡ old.reported.items
  pub asked : Asks result old.asked.items (record { kind = kind; name = name }) new.asked.items
  pub cause : OpeningHasCause old.faults new.faults result
  pub last : LastOpening result old.faults new.faults old.opening new.opening
  pub failing : new.failing.items ≡ old.failing.items
  pub calls : new.calls ≡ next_count old.calls
  pub fails : Contains old.failing.items (next_count old.calls) → IsErr result
  pub failed : IsErrOf result Failed → Contains old.failing.items (next_count old.calls)
  pub gave_up : old.refused < new.refused → IsErrOf result Memory
  pub memory : IsErrOf result Memory → Rose old.refused new.refused
  pub none : OnOk result ((new.refused ≡ old.refused) × (new.faults ≡ old.faults))

-- the call's number is one of those that fail, or nothing lies under the name
abbrev pub IsBad : {T : Type 0} → MemWorld → Option (Option T) → Type 0
IsBad w None = Unit {0}
IsBad w (Some None) = Unit {0}
IsBad w (Some (Some x)) = Contains w.failing.items (next_count w.calls)

-- an opening fails exactly where it is bad, and wants memory exactly where the count of that rises; both counts stand still at their type's end
pub record OpensExactly {T : Type 0} (old new : MemWorld) (bad : Type 0) (result : Result T WorldRefusal) : Type 0 where
  pub fails : bad → IsErr result
  pub failed : IsErrOf result Failed → bad
  pub gave_up : old.refused < new.refused → IsErrOf result Memory
  pub memory : IsErrOf result Memory → Rose old.refused new.refused
  pub calls : new.calls ≡ next_count old.calls
  pub failing : new.failing.items ≡ old.failing.items

-- as for other objects, but a clock that wasn't put opens
abbrev pub IsBadClock : MemWorld → Option (Option ClockView) → Type 0
IsBadClock w None = Contains w.failing.items (next_count w.calls)
IsBadClock w (Some None) = Unit {0}
IsBadClock w (Some (Some x)) = Contains w.failing.items (next_count w.calls)

abbrev pub placed : Option (Option ClockView) → Option (Option ClockView)
placed None = Some (Some (record { answers = []; calls = 0; faults = 0 }))
placed (Some place) = Some place

-- the world tells as much as before, and the clock of that host has its place
pub record PlacesClock (old new : MemWorld) (host : List ℕ) (result : Result (Unit {0}) WorldRefusal) : Type 0 where
  pub sources : new.sources.slots.items ≡ old.sources.slots.items
  pub sinks : new.sinks.slots.items ≡ old.sinks.slots.items
  pub disks : new.disks.slots.items ≡ old.disks.slots.items
  pub held : (n : List ℕ) → held_clock (clock_at new n) ≡ held_clock (clock_at old n)
  pub lent : (n : List ℕ) → clock_at old n ≡ Some None → clock_at new n ≡ Some None
  pub clock : OnOk result (clock_at new host ≡ placed (clock_at old host))
  pub reported : new.reported.items ≡ old.reported.items
  pub asked : new.asked.items ≡ old.asked.items
  pub failing : new.failing.items ≡ old.failing.items
  pub faults : new.faults ≡ old.faults
  pub opening : new.opening ≡ old.opening
  pub memory : OnErr result ((new.calls ≡ next_count old.calls) × (new.refused ≡ next_count old.refused))
  pub none : OnOk result ((new.calls ≡ old.calls) × (new.refused ≡ old.refused))
  pub why : IfErr result (λ e. e ≡ Memory)

-- nothing was put, asked, reported or called yet
pub record IsNewWorld (numbers : List ℕ) (w : MemWorld) : Type 0 where
  pub sources : (n : List ℕ) → source_at w n ≡ None
  pub sinks : (n : List ℕ) → sink_at w n ≡ None
  pub disks : (n : List ℕ) → disk_at w n ≡ None
  pub clocks : (n : List ℕ) → clock_at w n ≡ None
  pub asked : w.asked.items ≡ []
  pub reported : w.reported.items ≡ []
  pub failing : w.failing.items ≡ numbers
  pub calls : w.calls ≡ 0
  pub faults : w.faults ≡ 0
  pub refused : w.refused ≡ 0
