-- The ports of streams: what a world tells after they were opened, and after they were given back.
use Rattle.std.specs.Prelude.{ℕ, ◌≡◌, ◌≢◌, ◌⊎◌, ◌≤◌, List, [], ◌∷◌, ◌++◌, take}
use Rattle.ps_base.specs.Causes.{Rose}
use Rattle.ps_wire.specs.Reading.{IsFresh, source_of}
use Rattle.ps_wire.specs.declared.lines.Lines.{Lines}
use Rattle.ps_wire.specs.declared.streams.Sink.{Ghosts as SinkGhosts}
use Rattle.ps_wire.specs.declared.streams.Source.{Ghosts as SourceGhosts}
use Rattle.ps_io.specs.Held.{IsHeld, IsHeldClock, Same, SameLefts}
use Rattle.ps_io.specs.declared.clock.Clock.{Ghosts as ClockGhosts}
use Rattle.ps_io.specs.declared.world.Kind.{Kind}
use Rattle.ps_io.specs.declared.world.Kind.TheVariants.{Source, Sink, Store, Clock}
use Rattle.ps_io.specs.declared.world.OpenCall.{OpenCall}
use Rattle.ps_io.specs.declared.world.World.{Ghosts}
use Rattle.ps_args.specs.declared.command.Stream.{Stream}
use Rattle.ps_endpoints.specs.declared.port.Port.{Port}

-- the stream opens another name as an object of this kind, or none
abbrev pub Differs : Kind → List ℕ → Stream → Type 0
Differs Source name stream = name ≢ stream.source
Differs Sink name stream = name ≢ stream.sink
Differs Store name stream = Unit {0}
Differs Clock name stream = name ≢ stream.host

-- and so does each of the streams
abbrev pub IsOther : Kind → List ℕ → List Stream → Type 0
IsOther kind name [] = Unit {0}
IsOther kind name (stream ∷ streams) = Differs kind name stream × IsOther kind name streams

-- no two streams at different places share a source, a sink or a host
abbrev pub AreApart : List Stream → Type 0
AreApart [] = Unit {0}
AreApart (stream ∷ streams) =
    IsOther Source stream.source streams
    × IsOther Sink stream.sink streams
    × IsOther Clock stream.host streams
    × AreApart streams

-- its source alone
abbrev pub source_openings : Stream → List OpenCall
source_openings stream = record { kind = Source; name = stream.source } ∷ []

-- each stream's source, its sink and the clock of its host, in this order
abbrev pub port_openings : List Stream → List OpenCall
port_openings [] = []
port_openings (stream ∷ streams) =
    record { kind = Source; name = stream.source }
    ∷ record { kind = Sink; name = stream.sink }
    ∷ record { kind = Clock; name = stream.host }
    ∷ port_openings streams

-- as many as the streams, and this at each place
abbrev pub AtEach : {P : Type 0} → (Stream → P → Type 0) → List Stream → List P → Type 0
AtEach Is [] [] = Unit {0}
AtEach Is [] (port ∷ ports) = ⊥
AtEach Is (stream ∷ streams) [] = ⊥
AtEach Is (stream ∷ streams) (port ∷ ports) = Is stream port × AtEach Is streams ports

-- each name that no stream opens as an object of this kind has what it had
abbrev pub SameOthers : {H : Type 0} → Kind → List Stream → (List ℕ → H) → (List ℕ → H) → Type 0
SameOthers kind streams old new = (n : List ℕ) → IsOther kind n streams → new n ≡ old n

-- the counts of faults before and after the last opening lie in this time
pub record IsWithin (before : ℕ) (last : ℕ × ℕ) (now : ℕ) : Type 0 where
  pub since : before ≤ last.0
  pub later : last.0 ≤ last.1
  pub until : last.1 ≤ now

-- and the count rose in it
pub record OpeningFailed (before : ℕ) (last : ℕ × ℕ) (now : ℕ) : Type 0 where
  pub since : before ≤ last.0
  pub rose : Rose last.0 last.1
  pub until : last.1 ≤ now

module _ {S R K D C : Type 0} (w : Ghosts S R K D C) where
  -- what the source, the sink and the clock of the port tell is just what the world holds under the stream's names
  pub record IsPortHeld {r : SourceGhosts R} (k : SinkGhosts K) (c : ClockGhosts C) (world : S) (stream : Stream)
      (port : Port (Lines R r) C K) : Type 0 where
    pub source :
        IsHeld (w.sources world stream.source) (r.faults (source_of port.lines)) (r.left (source_of port.lines))
    pub sink : IsHeld (w.sinks world stream.sink) (k.faults port.sink) (k.written port.sink)
    pub clock : IsHeldClock (w.clocks world stream.host) (c.faults port.clock) (c.told port.clock)

  -- and no line was read yet
  pub record IsPortOpened {r : SourceGhosts R} (k : SinkGhosts K) (c : ClockGhosts C) (world : S) (stream : Stream)
      (port : Port (Lines R r) C K) : Type 0 where
    pub held : IsPortHeld k c world stream port
    pub fresh : IsFresh port.lines

  -- at each place
  abbrev pub AreHeld : {r : SourceGhosts R} → SinkGhosts K → ClockGhosts C → S → List Stream
      → List (Port (Lines R r) C K) → Type 0
  AreHeld {r = r} k c world streams ports = AtEach (IsPortHeld {r = r} k c world) streams ports

  abbrev pub AreOpened : {r : SourceGhosts R} → SinkGhosts K → ClockGhosts C → S → List Stream
      → List (Port (Lines R r) C K) → Type 0
  AreOpened {r = r} k c world streams ports = AtEach (IsPortOpened {r = r} k c world) streams ports

  -- the ports of these streams were put at the end
  abbrev pub AddsOpened : {r : SourceGhosts R} → SinkGhosts K → ClockGhosts C → S → List Stream
      → List (Port (Lines R r) C K) → List (Port (Lines R r) C K) → Type 0
  AddsOpened {r = r} k c world streams old new =
      (ports : List (Port (Lines R r) C K)) × (new ≡ old ++ ports) × AreOpened {r = r} k c world streams ports

  -- the three objects of the stream are open
  pub record IsOpenPort (world : S) (stream : Stream) : Type 0 where
    pub source : w.is_open world Source stream.source
    pub sink : w.is_open world Sink stream.sink
    pub clock : w.is_open world Clock stream.host

  -- those of each stream
  abbrev pub AreOpen : S → List Stream → Type 0
  AreOpen world [] = Unit {0}
  AreOpen world (stream ∷ streams) = IsOpenPort world stream × AreOpen world streams

  -- the world changes under the names of these streams alone: no store and no report is changed, and the count of faults
  -- doesn't fall
  pub record LeavesOthers (streams : List Stream) (old new : S) : Type 0 where
    pub sources : SameOthers Source streams (w.sources old) (w.sources new)
    pub sinks : SameOthers Sink streams (w.sinks old) (w.sinks new)
    pub clocks : SameOthers Clock streams (w.clocks old) (w.clocks new)
    pub stores : Same (w.stores old) (w.stores new)
    pub lefts : SameLefts (w.lefts old) (w.lefts new)
    pub stay : (k : Kind) (n : List ℕ) → IsOther k n streams → w.is_open old k n → w.is_open new k n
    pub reported : w.reported new ≡ w.reported old
    pub later : w.faults old ≤ w.faults new
    pub last : (w.last_opening new ≡ w.last_opening old) ⊎ IsWithin (w.faults old) (w.last_opening new) (w.faults new)

  -- each source, sink and clock is held as before
  pub record AllBack (old new : S) : Type 0 where
    pub sources : Same (w.sources old) (w.sources new)
    pub sinks : Same (w.sinks old) (w.sinks new)
    pub clocks : Same (w.clocks old) (w.clocks new)

  -- nothing was opened
  pub record OpensNothing (old new : S) : Type 0 where
    pub asked : w.asked new ≡ w.asked old
    pub last : w.last_opening new ≡ w.last_opening old
    pub faults : w.faults new ≡ w.faults old

  -- all of these openings were asked for
  abbrev pub AsksAll : List OpenCall → S → S → Type 0
  AsksAll openings old new = w.asked new ≡ w.asked old ++ openings

  -- or the first of them
  abbrev pub AsksInOrder : List OpenCall → S → S → Type 0
  AsksInOrder openings old new = (n : ℕ) × (w.asked new ≡ w.asked old ++ take n openings)

  -- the last opening failed, and came after the start
  abbrev pub FailedToOpen : S → S → Type 0
  FailedToOpen old new = OpeningFailed (w.faults old) (w.last_opening new) (w.faults new)
