-- What one worker did.
use Rattle.std.proofs.Common.{◌≡◌, ℕ, ◌+◌, ◌<◌, ◌≤◌, ◌^◌, true, List, Option, sym, subst, arith}
use Rattle.ps_base.specs.Causes.{Rose}
use Rattle.ps_disk.specs.declared.device.Disk.{Ghosts}
use Rattle.ps_wire.specs.AtEnd.{nothing_of}
use Rattle.ps_wire.specs.Reading.{Gave, IsFresh, given_of, rest_of, source_of}
use Rattle.ps_wire.specs.declared.lines.Lines.{Lines}
use Rattle.ps_wire.specs.declared.streams.Source.{Ghosts as SourceGhosts}
use Rattle.ps_types.specs.declared.entry.Entry.TheVariants.{Gone}
use Rattle.ps_twin.specs.Seats.{number_of, seen_of}
use Rattle.ps_trace.specs.Own.{HasNoEnd, own_steps}
use Rattle.ps_trace.specs.declared.deed.Deed.{Deed}
use Rattle.ps_hall.specs.Calls.{FoundOver, IsReader, IsWriter}
use Rattle.ps_hall_flush.specs.Origin.{Origin}
use Rattle.ps_hall.specs.Passes.{OurTwin}
use Rattle.ps_hall.specs.declared.answers.EndCause.{EndCause}
use Rattle.ps_hall.specs.declared.answers.EndCause.TheVariants.{WriteFault, Finished, Store as WriterStore, Full as WriterFull}
use Rattle.ps_hall.specs.declared.hall.Pass.{Pass}
use Rattle.ps_streams.specs.Reading.{SaidGone, SeatFoundClosed, SeatStreamRead, StreamRead, says_gone}
use Rattle.ps_streams.specs.Speaking.{DoneOnce, FindsBroken, FoundNoRoom, IsSamePass, IsWriterDone, MaySpeak, SeatSpeaks, Speaks}
use Rattle.ps_streams.specs.declared.read.ReadEnd.{ReadEnd}
use Rattle.ps_streams.specs.declared.read.ReadEnd.TheVariants.{Ended, Long, ReadFault, Closed, Store as ReaderStore, Full as ReaderFull}
use Rattle.ps_workers.specs.Working.{ByWork, DidWork, IsReady, MayWork, ReaderDid, WriterDid, clocks, sinks, sources}
use Rattle.ps_workers.specs.declared.work.Work.{Work}
use Rattle.ps_workers.specs.declared.work.Work.TheVariants.{Reader, Writer}
use Rattle.ps_workers.specs.declared.work.Worker.{Worker}

all_given : (given n now total : ℕ) → now ≡ given + n → given ≡ 0 → now ≡ total → n ≡ total
all_given given n now total a b c = omega (arith, a, b, c)

fewer_given : (given n now total : ℕ) → now ≡ given + n → given ≡ 0 → now < total → n < total
fewer_given given n now total a b c = omega (arith, a, b, c)

module _ {B D S C K : Type 0} {g : Ghosts D} {s : SourceGhosts S} (o : Origin) (t : OurTwin B D g) (old : Worker (Pass B D g) (Lines S s) C K) (ready : IsReady o t old) where
  pub may_read : (lines : Lines S s) (clock : C) (e : ReadEnd) → old.work ≡ Reader lines clock e → IsReader o t old.pass.at old.pass.host old.pass.seat × IsFresh lines
  may_read lines clock e is = subst (λ (w : Work (Lines S s) C K). MayWork o t old.pass w) is ready.may

  pub may_write : (sink : K) (e : EndCause) → old.work ≡ Writer sink e → MaySpeak o t old.pass
  may_write sink e is = subst (λ (w : Work (Lines S s) C K). MayWork o t old.pass w) is ready.may

  module _ (clock_faults : C → ℕ) (told : C → Option (List (Option ℕ))) (sink_faults : K → ℕ) (written : K → Option (List ℕ)) (p : Pass B D g) where
    abbrev Reads : Lines S s → Lines S s → C → C → ReadEnd → Type 0
    Reads lines now clock clock_now end = ReaderDid o t old.pass p (sources lines) (sources now) (clocks clock_faults told clock) (clocks clock_faults told clock_now) end

    abbrev Writes : K → K → EndCause → Type 0
    Writes sink now why = WriterDid o t old.pass p (sinks sink_faults written sink) (sinks sink_faults written now) why

    pub did_read : (lines now : Lines S s) (clock clock_now : C) (e end : ReadEnd) → old.work ≡ Reader lines clock e → IsReader o t p.at p.host p.seat → IsSamePass old.pass p
        → SeatStreamRead o old.pass.host old.pass.seat p.seat (rest_of lines) (s.left (source_of now)) (told clock) (told clock_now) end
        → s.faults (source_of lines) ≤ s.faults (source_of now) → (end ≡ ReadFault → Rose (s.faults (source_of lines)) (s.faults (source_of now))) → (end ≡ Long → given_of now ≡ 2 ^ 40)
        → (says_gone end ≡ true → SaidGone old.pass.host (number_of old.pass.seat) (seen_of p.seat))
        → Gave (s.left (source_of lines)) (s.left (source_of now)) (given_of lines) (given_of now) → (end ≡ Ended → given_of now < 2 ^ 40)
        → (end ≡ Ended → s.left (source_of now) ≡ nothing_of (s.left (source_of now)))
        → (end ≡ ReaderStore → FindsBroken o p.seat) → (end ≡ ReaderFull → FoundOver o (Gone old.pass.host) (seen_of p.seat)) → (end ≡ Closed → SeatFoundClosed o old.pass.host old.pass.seat p.seat)
        → DidWork o t (clocks clock_faults told) (sinks sink_faults written) old (record { pass = p; work = Reader now clock_now end })
    did_read lines now clock clock_now e end is reader same read later fault long gone gave early spent broke full closed =
        let fresh = (may_read lines clock e is).1 in
        let k = number_of old.pass.seat in
        let first : SeatStreamRead o old.pass.host old.pass.seat p.seat (s.left (source_of lines)) (s.left (source_of now)) (told clock) (told clock_now) end =
        subst (λ (b : Option (List ℕ)). StreamRead o old.pass.host k (seen_of old.pass.seat) (seen_of p.seat) b (s.left (source_of now)) (told clock) (told clock_now) end) fresh.before read in
        record {
          same = same;
          did = subst (λ (w : Work (Lines S s) C K). ByWork w (Reader now clock_now end) Reads Writes) (sym is) (record {
            reader = reader;
            made = record {
              read = subst (λ (l : List Deed). StreamRead o old.pass.host k l (seen_of p.seat) (s.left (source_of lines)) (s.left (source_of now)) (told clock) (told clock_now) end) ready.fresh first;
              gone = gone;
              later = later;
              fault = fault;
              long = λ at_end. (gave.0, gave.1, all_given (given_of lines) _ (given_of now) (2 ^ 40) gave.2 fresh.given_none (long at_end));
              early = λ at_end. (gave.0, gave.1, fewer_given (given_of lines) _ (given_of now) (2 ^ 40) gave.2 fresh.given_none (early at_end));
              spent = spent;
              broke = broke;
              full = full;
              closed = λ at_end. closed at_end (subst (λ (l : List Deed). HasNoEnd (own_steps k l)) (sym ready.fresh) tt);
            };
          });
        }

    pub did_write : (sink now : K) (e why : EndCause) → old.work ≡ Writer sink e → IsWriter o t p.at p.host p.seat → IsSamePass old.pass p
        → SeatSpeaks o old.pass.seat p.seat (written sink) (written now) (why ≡ WriteFault) → (why ≡ Finished → IsWriterDone o old.pass.host old.pass.seat p.seat)
        → sink_faults sink ≤ sink_faults now → (why ≡ WriteFault → Rose (sink_faults sink) (sink_faults now))
        → (why ≡ WriterStore → FindsBroken o p.seat) → (why ≡ WriterFull → FoundNoRoom o old.pass.host p.seat)
        → DidWork o t (clocks clock_faults told) (sinks sink_faults written) old (record { pass = p; work = Writer now why })
    did_write sink now e why is writer same speaks done later fault broke full = record {
      same = same;
      did = subst (λ (w : Work (Lines S s) C K). ByWork w (Writer now why) Reads Writes) (sym is) (record {
        writer = writer;
        made = record {
          speaks = subst (λ (l : List Deed). Speaks o (number_of old.pass.seat) l (seen_of p.seat) (written sink) (written now) (why ≡ WriteFault)) ready.fresh speaks;
          done = λ finished. subst (λ (l : List Deed). DoneOnce o old.pass.host (number_of old.pass.seat) l (seen_of p.seat)) ready.fresh (done finished);
          later = later;
          fault = fault;
          broke = broke;
          full = full;
        };
      });
    }
