-- The workers of all hosts.
use Rattle.std.specs.Prelude.{◌≡◌, ℕ, ◌+◌, ◌≤◌, ◌∷◌, [], List, vec_capacity}
use Rattle.ps_disk.specs.declared.device.Disk.{Ghosts}
use Rattle.ps_wire.specs.declared.lines.Lines.{Lines}
use Rattle.ps_wire.specs.declared.streams.Source.{Ghosts as SourceGhosts}
use Rattle.ps_io.specs.Held.{Held, HeldClock}
use Rattle.ps_endpoints.specs.declared.port.Port.{Port}
use Rattle.ps_hall.specs.declared.answers.EndCause.TheVariants.{Finished}
use Rattle.ps_hall.specs.declared.hall.HostPasses.{HostPasses}
use Rattle.ps_hall.specs.declared.hall.Pass.{Pass}
use Rattle.ps_streams.specs.declared.read.ReadEnd.TheVariants.{Ended as ReadAll}
use Rattle.ps_workers.specs.Headline.{Worked}
use Rattle.ps_workers.specs.Working.{sources}
use Rattle.ps_workers.specs.declared.serving.Ended.{Ended}
use Rattle.ps_workers.specs.declared.serving.WorkRoom.{WorkRoom}
use Rattle.ps_workers.specs.declared.work.Work.{Work}
use Rattle.ps_workers.specs.declared.work.Work.TheVariants.{Reader, Writer}
use Rattle.ps_workers.specs.declared.work.Worker.{Worker}

module _ {L C K : Type 0} where
  abbrev pub IsReading : Work L C K → Type 0
  IsReading (Reader lines clock end) = Unit {0}
  IsReading (Writer sink why) = ⊥

  abbrev pub IsWriting : Work L C K → Type 0
  IsWriting (Reader lines clock end) = ⊥
  IsWriting (Writer sink why) = Unit {0}

  -- the stream of a reader's work and a writer's, before those
  abbrev pub ended_by : Work L C K → Work L C K → List (Ended L C K) → List (Ended L C K)
  ended_by (Reader lines clock end) (Writer sink why) rest =
      record { port = record { lines = lines; clock = clock; sink = sink }; read = end; wrote = why } ∷ rest
  ended_by (Reader lines clock end) (Reader other clock_too end_too) rest = rest
  ended_by (Writer sink why) other rest = rest

module _ {B D L C K : Type 0} {g : Ghosts D} where
  -- there is room for the workers of so many hosts
  pub record IsRoomFor (hosts : ℕ) (room : WorkRoom B D L C K g) : Type 0 where
    pub workers : room.workers.items ≡ []
    pub workers_fit : hosts + hosts ≤ vec_capacity room.workers
    pub passes : room.passes.items ≡ []
    pub passes_fit : hosts ≤ vec_capacity room.passes
    pub ended : room.ended.items ≡ []
    pub ended_fit : hosts ≤ vec_capacity room.ended

  -- the workers of these passes and streams: of each host its reader, and then its writer
  abbrev pub reader_of : HostPasses B D g → Port L C K → Worker (Pass B D g) L C K
  reader_of p port = record { pass = p.reader; work = Reader port.lines port.clock ReadAll }

  abbrev pub writer_of : HostPasses B D g → Port L C K → Worker (Pass B D g) L C K
  writer_of p port = record { pass = p.writer; work = Writer port.sink Finished }

  abbrev pub team : List (HostPasses B D g) → List (Port L C K) → List (Worker (Pass B D g) L C K)
  team [] ports = []
  team (p ∷ ps) [] = []
  team (p ∷ ps) (port ∷ ports) = reader_of p port ∷ writer_of p port ∷ team ps ports

  -- each reader is followed by a writer
  abbrev pub ArePaired : List (Worker (Pass B D g) L C K) → Type 0
  ArePaired [] = Unit {0}
  ArePaired (r ∷ []) = ⊥
  ArePaired (r ∷ w ∷ ws) = IsReading r.work × IsWriting w.work × ArePaired ws

  -- the passes of such a list, and its streams
  abbrev pub passes_in : List (Worker (Pass B D g) L C K) → List (HostPasses B D g)
  passes_in [] = []
  passes_in (r ∷ []) = []
  passes_in (r ∷ w ∷ ws) = record { reader = r.pass; writer = w.pass } ∷ passes_in ws

  abbrev pub ended_in : List (Worker (Pass B D g) L C K) → List (Ended L C K)
  ended_in [] = []
  ended_in (r ∷ []) = []
  ended_in (r ∷ w ∷ ws) = ended_by r.work w.work (ended_in ws)

-- what the objects of each stream tell before and after
module _ {S C K : Type 0} {s : SourceGhosts S} (clock_of : C → HeldClock) (sink_of : K → Held) where
  abbrev pub worked_one : Port (Lines S s) C K → Ended (Lines S s) C K → Worked
  worked_one port ended = record {
    source = sources port.lines;
    source_now = sources ended.port.lines;
    clock = clock_of port.clock;
    clock_now = clock_of ended.port.clock;
    sink = sink_of port.sink;
    sink_now = sink_of ended.port.sink;
    read = ended.read;
    wrote = ended.wrote;
  }

  abbrev pub worked_of : List (Port (Lines S s) C K) → List (Ended (Lines S s) C K) → List Worked
  worked_of [] ended = []
  worked_of (port ∷ ports) [] = []
  worked_of (port ∷ ports) (e ∷ ended) = worked_one port e ∷ worked_of ports ended
