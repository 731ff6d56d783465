-- What a worker is given, and what it makes.
use Rattle.std.specs.Prelude.{◌≡◌, ℕ, ◌≤◌, [], true, List, Option}
use Rattle.ps_base.specs.Causes.{Rose}
use Rattle.ps_disk.specs.declared.device.Disk.{Ghosts}
use Rattle.ps_wire.specs.AtEnd.{nothing_of}
use Rattle.ps_wire.specs.Reading.{IsFresh, source_of}
use Rattle.ps_wire.specs.declared.lines.Lines.{Lines}
use Rattle.ps_wire.specs.declared.streams.Source.{Ghosts as SourceGhosts}
use Rattle.ps_io.specs.Held.{Held, HeldClock}
use Rattle.ps_types.specs.declared.entry.Entry.TheVariants.{Gone}
use Rattle.ps_twin.specs.Seats.{number_of, seen_of}
use Rattle.ps_trace.specs.declared.deed.Deed.{Deed}
use Rattle.ps_hall.specs.Calls.{FoundOver, IsReader, IsWriter}
use Rattle.ps_hall_flush.specs.Homes.{world_at}
use Rattle.ps_hall_flush.specs.Origin.{Origin}
use Rattle.ps_hall.specs.Passes.{OurTwin}
use Rattle.ps_hall.specs.declared.answers.EndCause.{EndCause}
use Rattle.ps_hall.specs.declared.answers.EndCause.TheVariants.{WriteFault, Finished, Store as WriterStore, Full as WriterFull}
use Rattle.ps_hall.specs.declared.hall.Pass.{Pass}
use Rattle.ps_streams.specs.Reading.{FoundClosed, SaidGone, StreamRead, says_gone}
use Rattle.ps_streams.specs.Speaking.{DoneOnce, HadNoRoom, IsSamePass, MaySpeak, Speaks}
use Rattle.ps_streams.specs.declared.read.ReadEnd.{ReadEnd}
use Rattle.ps_streams.specs.declared.read.ReadEnd.TheVariants.{Ended, Long, ReadFault, Closed, Store as ReaderStore, Full as ReaderFull}
use Rattle.ps_workers.specs.Headline.{GaveAll, GaveFewer}
use Rattle.ps_workers.specs.declared.work.Work.{Work}
use Rattle.ps_workers.specs.declared.work.Work.TheVariants.{Reader, Writer}
use Rattle.ps_workers.specs.declared.work.Worker.{Worker}

-- ---- what its objects tell

abbrev pub sources : {S : Type 0} {g : SourceGhosts S} → Lines S g → Held
sources {S} {g} lines = record { faults = g.faults (source_of lines); bytes = g.left (source_of lines) }

abbrev pub clocks : {C : Type 0} → (C → ℕ) → (C → Option (List (Option ℕ))) → C → HeldClock
clocks faults told clock = record { faults = faults clock; told = told clock }

abbrev pub sinks : {K : Type 0} → (K → ℕ) → (K → Option (List ℕ)) → K → Held
sinks faults written sink = record { faults = faults sink; bytes = written sink }

-- ---- what a pass that had seen nothing makes, by what it has seen since

-- a reader's
pub record ReaderMade (o : Origin) (host : List ℕ) (k : ℕ) (seen : List Deed) (source now : Held) (clock clock_now : HeldClock) (end : ReadEnd) : Type 0 where
  pub read : StreamRead o host k [] seen source.bytes now.bytes clock.told clock_now.told end
  pub gone : says_gone end ≡ true → SaidGone host k seen
  pub later : source.faults ≤ now.faults
  pub fault : end ≡ ReadFault → Rose source.faults now.faults
  pub long : end ≡ Long → GaveAll source.bytes now.bytes
  pub early : end ≡ Ended → GaveFewer source.bytes now.bytes
  pub spent : end ≡ Ended → now.bytes ≡ nothing_of now.bytes
  pub broke : end ≡ ReaderStore → (world_at o seen).broken ≡ true
  pub full : end ≡ ReaderFull → FoundOver o (Gone host) seen
  pub closed : end ≡ Closed → FoundClosed o host k seen

-- a writer's
pub record WriterMade (o : Origin) (host : List ℕ) (k : ℕ) (seen : List Deed) (sink now : Held) (why : EndCause) : Type 0 where
  pub speaks : Speaks o k [] seen sink.bytes now.bytes (why ≡ WriteFault)
  pub done : why ≡ Finished → DoneOnce o host k [] seen
  pub later : sink.faults ≤ now.faults
  pub fault : why ≡ WriteFault → Rose sink.faults now.faults
  pub broke : why ≡ WriterStore → (world_at o seen).broken ≡ true
  pub full : why ≡ WriterFull → HadNoRoom o host seen

-- ---- by what the work is

-- of one kind before and after
abbrev pub ByWork : {L C K : Type 0} → Work L C K → Work L C K → (L → L → C → C → ReadEnd → Type 0) → (K → K → EndCause → Type 0) → Type 0
ByWork (Reader lines clock e) (Reader lines_now clock_now end) R W = R lines lines_now clock clock_now end
ByWork (Writer sink e) (Writer sink_now why) R W = W sink sink_now why
ByWork (Reader lines clock e) (Writer sink_now why) R W = ⊥
ByWork (Writer sink e) (Reader lines_now clock_now end) R W = ⊥

module _ {B D : Type 0} {g : Ghosts D} where
  pub record ReaderDid (o : Origin) (t : OurTwin B D g) (old new : Pass B D g) (source now : Held) (clock clock_now : HeldClock) (end : ReadEnd) : Type 0 where
    pub reader : IsReader o t new.at new.host new.seat
    pub made : ReaderMade o old.host (number_of old.seat) (seen_of new.seat) source now clock clock_now end

  pub record WriterDid (o : Origin) (t : OurTwin B D g) (old new : Pass B D g) (sink now : Held) (why : EndCause) : Type 0 where
    pub writer : IsWriter o t new.at new.host new.seat
    pub made : WriterMade o old.host (number_of old.seat) (seen_of new.seat) sink now why

module _ {B D S C K : Type 0} {g : Ghosts D} {s : SourceGhosts S} where
  abbrev pub MayWork : Origin → OurTwin B D g → Pass B D g → Work (Lines S s) C K → Type 0
  MayWork o t p (Reader lines clock e) = IsReader o t p.at p.host p.seat × IsFresh lines
  MayWork o t p (Writer sink e) = MaySpeak o t p

  -- the worker has the pass that its work needs, and that has seen nothing
  pub record IsReady (o : Origin) (t : OurTwin B D g) (w : Worker (Pass B D g) (Lines S s) C K) : Type 0 where
    pub may : MayWork o t w.pass w.work
    pub fresh : seen_of w.pass.seat ≡ []

  -- what it did with its pass and its objects
  pub record DidWork (o : Origin) (t : OurTwin B D g) (clock_of : C → HeldClock) (sink_of : K → Held) (old new : Worker (Pass B D g) (Lines S s) C K) : Type 0 where
    pub same : IsSamePass old.pass new.pass
    pub did : ByWork old.work new.work
        (λ lines now clock clock_now end. ReaderDid o t old.pass new.pass (sources lines) (sources now) (clock_of clock) (clock_of clock_now) end)
        (λ sink now why. WriterDid o t old.pass new.pass (sink_of sink) (sink_of now) why)
