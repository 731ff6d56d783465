-- The workers of all hosts, before they work and after.
use Rattle.std.proofs.Common.{◌≡◌, ℕ, zero, suc, ◌+◌, ◌<◌, List, [], ◌∷◌, Some, length, get_or, refl, ap, sym, ◌∙◌, subst, arith}
use Rattle.std.specs.Prelude.{slice_get}
use Rattle.std.specs.List.{All}
use Rattle.ps_disk.specs.declared.device.Disk.{Ghosts}
use Rattle.ps_wire.specs.Reading.{IsFresh as IsUnread}
use Rattle.ps_wire.specs.declared.lines.Lines.{Lines}
use Rattle.ps_wire.specs.declared.streams.Source.{Ghosts as SourceGhosts}
use Rattle.ps_io.specs.Held.{Held, HeldClock}
use Rattle.ps_endpoints.specs.declared.port.Port.{Port}
use Rattle.ps_twin.specs.Seats.{number_of, seen_of}
use Rattle.ps_hall.specs.Calls.{IsReader, IsWriter}
use Rattle.ps_hall_flush.specs.Origin.{Origin}
use Rattle.ps_hall.specs.Passes.{AreFresh, AreOf, ArePasses, IsFresh, OurTwin, seats_in}
use Rattle.ps_hall.specs.declared.answers.EndCause.{EndCause}
use Rattle.ps_hall.specs.declared.answers.EndCause.TheVariants.{Finished}
use Rattle.ps_hall.specs.declared.hall.HostPasses.{HostPasses}
use Rattle.ps_hall.specs.declared.hall.Pass.{Pass}
use Rattle.ps_streams.specs.declared.read.ReadEnd.{ReadEnd}
use Rattle.ps_streams.specs.declared.read.ReadEnd.TheVariants.{Ended as ReadAll}
use Rattle.ps_workers.specs.Headline.{Worked}
use Rattle.ps_workers.specs.Teams.{ArePaired, IsReading, IsWriting, ended_by, ended_in, passes_in, reader_of, team, worked_of, worked_one, writer_of}
use Rattle.ps_workers.specs.Working.{ByWork, DidWork, IsReady, ReaderDid, ReaderMade, WriterDid, WriterMade, sources}
use Rattle.ps_workers.specs.declared.serving.Ended.{Ended}
use Rattle.ps_workers.specs.declared.work.Work.{Work}
use Rattle.ps_workers.specs.declared.work.Work.TheVariants.{Reader, Writer}
use Rattle.ps_workers.specs.declared.work.Worker.{Worker}
use Rattle.ps_trace.proofs.Completing.{none-left}

-- ---- kinds of work

module _ {L C K : Type 0} where
  record WasRead (R : L → C → ReadEnd → Type 0) (a : Work L C K) : Type 0 where
    lines : L
    clock : C
    end : ReadEnd
    is : a ≡ Reader lines clock end
    did : R lines clock end

  record WasWritten (W : K → EndCause → Type 0) (a : Work L C K) : Type 0 where
    sink : K
    why : EndCause
    is : a ≡ Writer sink why
    did : W sink why

  was_read : (R : L → L → C → C → ReadEnd → Type 0) (W : K → K → EndCause → Type 0) (lines : L) (clock : C) (e : ReadEnd) (a : Work L C K) → ByWork (Reader lines clock e) a R W
      → WasRead (λ m d end. R lines m clock d end) a
  was_read R W lines clock e (Reader m d end) did = record { lines = m; clock = d; end = end; is = refl; did = did }
  was_read R W lines clock e (Writer j why) did = absurd did

  was_written : (R : L → L → C → C → ReadEnd → Type 0) (W : K → K → EndCause → Type 0) (sink : K) (e : EndCause) (a : Work L C K) → ByWork (Writer sink e) a R W → WasWritten (λ j why. W sink j why) a
  was_written R W sink e (Writer j why) did = record { sink = j; why = why; is = refl; did = did }
  was_written R W sink e (Reader m d end) did = absurd did

  reading : (a : Work L C K) (lines : L) (clock : C) (end : ReadEnd) → a ≡ Reader lines clock end → IsReading a
  reading a lines clock end is = subst IsReading (sym is) tt

  writing : (a : Work L C K) (sink : K) (why : EndCause) → a ≡ Writer sink why → IsWriting a
  writing a sink why is = subst IsWriting (sym is) tt

some_same : {X : Type 0} (x y : X) → Some x ≡ Some y → x ≡ y
some_same x y e = cc e

module _ {B D : Type 0} {g : Ghosts D} where
  -- the seats of a host
  pub seats_at : (qs : List (HostPasses B D g)) (k : ℕ) (q : HostPasses B D g) → slice_get qs k ≡ Some q
      → (slice_get (seats_in qs) (k + k) ≡ Some q.reader.seat) × (slice_get (seats_in qs) (k + k + 1) ≡ Some q.writer.seat)
  seats_at [] k q e = absurd (cc e)
  seats_at (p ∷ ps) zero q e = (let same : p ≡ q = cc e in (ap (λ (x : HostPasses B D g). Some x.reader.seat) same, ap (λ (x : HostPasses B D g). Some x.writer.seat) same))
  seats_at (p ∷ ps) (suc k) q e =
      let r = seats_at ps k q e in
      let even : suc k + suc k ≡ suc (suc (k + k)) = omega arith in
      let odd : suc k + suc k + 1 ≡ suc (suc (k + k + 1)) = omega arith in
      (ap (λ n. slice_get (seats_in (p ∷ ps)) n) even ∙ r.0, ap (λ n. slice_get (seats_in (p ∷ ps)) n) odd ∙ r.1)

  module _ (o : Origin) (t : OurTwin B D g) where
    record AreReady (p : HostPasses B D g) : Type 0 where
      reader : IsReader o t p.reader.at p.reader.host p.reader.seat
      writer : IsWriter o t p.writer.at p.writer.host p.writer.seat
      reader_fresh : IsFresh o p.reader
      writer_fresh : IsFresh o p.writer

    ready_of : (ps : List (HostPasses B D g)) → AreFresh o t ps → (k : ℕ) (p : HostPasses B D g) → slice_get ps k ≡ Some p → AreReady p
    ready_of ps fresh k p e =
        let a = fresh.all.each k p e in
        let f = fresh.each k p e in
        record { reader = a.reader; writer = a.writer; reader_fresh = f.0; writer_fresh = f.1 }

  module _ (o : Origin) where
    -- a host's two workers made this of the stream's objects
    pub record HostMade (at : ℕ) (h : List ℕ) (q : HostPasses B D g) (x : Worked) : Type 0 where
      pub here : slice_get o.hosts at ≡ Some h
      pub reader : ReaderMade o h (at + at) (seen_of q.reader.seat) x.source x.source_now x.clock x.clock_now x.read
      pub writer : WriterMade o h (at + at + 1) (seen_of q.writer.seat) x.sink x.sink_now x.wrote

    record MadeAt (at k : ℕ) (qs : List (HostPasses B D g)) (x : Worked) : Type 0 where
      h : List ℕ
      q : HostPasses B D g
      there : slice_get qs k ≡ Some q
      made : HostMade at h q x

module _ {B D S C K : Type 0} {g : Ghosts D} {s : SourceGhosts S} where
  pub team_length : (ps : List (HostPasses B D g)) (ports : List (Port (Lines S s) C K)) → length ports ≡ length ps → length (team ps ports) ≡ length ps + length ps
  team_length [] ports same = omega arith
  team_length (p ∷ ps) [] same = absurd (omega (arith, same))
  team_length (p ∷ ps) (port ∷ ports) same = let r = team_length ps ports (omega (arith, same)) in omega (arith, r)

  module _ (o : Origin) (t : OurTwin B D g) where
    -- ---- before they work

    each_ready : (ps : List (HostPasses B D g)) (ports : List (Port (Lines S s) C K)) → ((k : ℕ) (p : HostPasses B D g) → slice_get ps k ≡ Some p → AreReady o t p)
        → All (λ (port : Port (Lines S s) C K). IsUnread port.lines) ports
        → (i : ℕ) (d : Worker (Pass B D g) (Lines S s) C K) → i < length (team ps ports) → IsReady o t (get_or (team ps ports) i d)
    each_ready [] ports ready unread i d low = absurd (omega (arith, low))
    each_ready (p ∷ ps) [] ready unread i d low = absurd (omega (arith, low))
    each_ready (p ∷ ps) (port ∷ ports) ready unread zero d low =
        let a = ready 0 p refl in
        record { may = (a.reader, unread 0 port (omega arith)); fresh = a.reader_fresh.seen }
    each_ready (p ∷ ps) (port ∷ ports) ready unread (suc zero) d low =
        let a = ready 0 p refl in
        record { may = record { writer = a.writer; free = a.writer_fresh.hand; hand = a.writer_fresh.none }; fresh = a.writer_fresh.seen }
    each_ready (p ∷ ps) (port ∷ ports) ready unread (suc (suc i)) d low =
        each_ready ps ports (λ k q e. ready (suc k) q e) (λ k x lt. unread (suc k) x (omega (arith, lt))) i d (omega (arith, low))

    pub team_ready : (ps : List (HostPasses B D g)) (ports : List (Port (Lines S s) C K)) → AreFresh o t ps → All (λ (port : Port (Lines S s) C K). IsUnread port.lines) ports
        → (i : ℕ) (d : Worker (Pass B D g) (Lines S s) C K) → i < length (team ps ports) → IsReady o t (get_or (team ps ports) i d)
    team_ready ps ports fresh unread = each_ready ps ports (ready_of o t ps fresh) unread

    -- ---- after

    module _ (clock_of : C → HeldClock) (sink_of : K → Held) where
      abbrev pub AllDid : List (HostPasses B D g) → List (Port (Lines S s) C K) → List (Worker (Pass B D g) (Lines S s) C K) → Type 0
      AllDid [] ports ws = ws ≡ []
      AllDid (p ∷ ps) [] ws = ⊥
      AllDid (p ∷ ps) (port ∷ ports) [] = ⊥
      AllDid (p ∷ ps) (port ∷ ports) (r ∷ []) = ⊥
      AllDid (p ∷ ps) (port ∷ ports) (r ∷ w ∷ ws) = DidWork o t clock_of sink_of (reader_of p port) r × DidWork o t clock_of sink_of (writer_of p port) w × AllDid ps ports ws

      pub all_did : (ps : List (HostPasses B D g)) (ports : List (Port (Lines S s) C K)) (ws : List (Worker (Pass B D g) (Lines S s) C K)) → length ports ≡ length ps
          → length ws ≡ length (team ps ports)
          → ((i : ℕ) (d : Worker (Pass B D g) (Lines S s) C K) → i < length (team ps ports) → DidWork o t clock_of sink_of (get_or (team ps ports) i d) (get_or ws i d)) → AllDid ps ports ws
      all_did [] ports ws same size did = none-left ws size
      all_did (p ∷ ps) [] ws same size did = absurd (omega (arith, same))
      all_did (p ∷ ps) (port ∷ ports) [] same size did = absurd (omega (arith, size))
      all_did (p ∷ ps) (port ∷ ports) (r ∷ []) same size did = absurd (omega (arith, size))
      all_did (p ∷ ps) (port ∷ ports) (r ∷ w ∷ ws) same size did =
          (did 0 r (omega arith), did 1 r (omega arith), all_did ps ports ws (omega (arith, same)) (omega (arith, size)) (λ i d low. did (suc (suc i)) d (omega (arith, low))))

      -- one host's two workers
      record TwoDid (p : HostPasses B D g) (port : Port (Lines S s) C K) (r w : Worker (Pass B D g) (Lines S s) C K) : Type 0 where
        read : WasRead (λ m d end. ReaderDid o t p.reader r.pass (sources port.lines) (sources m) (clock_of port.clock) (clock_of d) end) r.work
        wrote : WasWritten (λ j why. WriterDid o t p.writer w.pass (sink_of port.sink) (sink_of j) why) w.work

      two_did : (p : HostPasses B D g) (port : Port (Lines S s) C K) (r w : Worker (Pass B D g) (Lines S s) C K) → DidWork o t clock_of sink_of (reader_of p port) r
          → DidWork o t clock_of sink_of (writer_of p port) w → TwoDid p port r w
      two_did p port r w a b = record {
        read = was_read _ _ port.lines port.clock ReadAll r.work a.did;
        wrote = was_written _ _ port.sink Finished w.work b.did;
      }

      pub are_paired : (ps : List (HostPasses B D g)) (ports : List (Port (Lines S s) C K)) (ws : List (Worker (Pass B D g) (Lines S s) C K)) → AllDid ps ports ws → ArePaired ws
      are_paired [] ports ws all = subst (λ (l : List (Worker (Pass B D g) (Lines S s) C K)). ArePaired l) (sym all) tt
      are_paired (p ∷ ps) [] ws all = absurd all
      are_paired (p ∷ ps) (port ∷ ports) [] all = absurd all
      are_paired (p ∷ ps) (port ∷ ports) (r ∷ []) all = absurd all
      are_paired (p ∷ ps) (port ∷ ports) (r ∷ w ∷ ws) all =
          let two = two_did p port r w all.0 all.1 in
          (reading r.work two.read.lines two.read.clock two.read.end two.read.is, writing w.work two.wrote.sink two.wrote.why two.wrote.is, are_paired ps ports ws all.2)

      pub passes_size : (ps : List (HostPasses B D g)) (ports : List (Port (Lines S s) C K)) (ws : List (Worker (Pass B D g) (Lines S s) C K)) → AllDid ps ports ws → length (passes_in ws) ≡ length ps
      passes_size [] ports ws all = ap (λ (l : List (Worker (Pass B D g) (Lines S s) C K)). length (passes_in l)) all
      passes_size (p ∷ ps) [] ws all = absurd all
      passes_size (p ∷ ps) (port ∷ ports) [] all = absurd all
      passes_size (p ∷ ps) (port ∷ ports) (r ∷ []) all = absurd all
      passes_size (p ∷ ps) (port ∷ ports) (r ∷ w ∷ ws) all = ap suc (passes_size ps ports ws all.2)

      -- the passes of a host, back from their work
      of_two : (at : ℕ) (p : HostPasses B D g) (port : Port (Lines S s) C K) (r w : Worker (Pass B D g) (Lines S s) C K) → AreOf o t at p → DidWork o t clock_of sink_of (reader_of p port) r
          → DidWork o t clock_of sink_of (writer_of p port) w
          → AreOf o t at (record { reader = r.pass; writer = w.pass })
      of_two at p port r w of a b =
          let two = two_did p port r w a b in
          record { reader = two.read.did.reader; writer = two.wrote.did.writer; at_reader = a.same.at ∙ of.at_reader; at_writer = b.same.at ∙ of.at_writer }

      no_passes : (ws : List (Worker (Pass B D g) (Lines S s) C K)) → ws ≡ [] → (k : ℕ) (q : HostPasses B D g) → slice_get (passes_in ws) k ≡ Some q → ⊥
      no_passes [] none k q e = cc e
      no_passes (w ∷ ws) none k q e = cc none

      each_back : (n : ℕ) (ps : List (HostPasses B D g)) (ports : List (Port (Lines S s) C K)) (ws : List (Worker (Pass B D g) (Lines S s) C K)) → AllDid ps ports ws
          → ((k : ℕ) (p : HostPasses B D g) → slice_get ps k ≡ Some p → AreOf o t (n + k) p) → (k : ℕ) (q : HostPasses B D g) → slice_get (passes_in ws) k ≡ Some q → AreOf o t (n + k) q
      each_back n [] ports ws all each k q e = absurd (no_passes ws all k q e)
      each_back n (p ∷ ps) [] ws all each k q e = absurd all
      each_back n (p ∷ ps) (port ∷ ports) [] all each k q e = absurd all
      each_back n (p ∷ ps) (port ∷ ports) (r ∷ []) all each k q e = absurd all
      each_back n (p ∷ ps) (port ∷ ports) (r ∷ w ∷ ws) all each zero q e =
          let both : HostPasses B D g = record { reader = r.pass; writer = w.pass } in
          let same : both ≡ q = some_same both q e in
          subst (λ (x : HostPasses B D g). AreOf o t (n + 0) x) same (of_two (n + 0) p port r w (each 0 p refl) all.0 all.1)
      each_back n (p ∷ ps) (port ∷ ports) (r ∷ w ∷ ws) all each (suc k) q e =
          subst (λ m. AreOf o t m q) (let m : n + 1 + k ≡ n + suc k = omega arith in m)
          (each_back (n + 1) ps ports ws all.2 (λ j x there. subst (λ m. AreOf o t m x) (let m : n + suc j ≡ n + 1 + j = omega arith in m) (each (suc j) x there)) k q e)

      pub passes_back : (ps : List (HostPasses B D g)) (ports : List (Port (Lines S s) C K)) (ws : List (Worker (Pass B D g) (Lines S s) C K)) → AllDid ps ports ws → ArePasses o t ps
          → ArePasses o t (passes_in ws)
      passes_back ps ports ws all passes = record {
        size = passes_size ps ports ws all ∙ passes.size;
        each = λ k q e. subst (λ m. AreOf o t m q) (let z : 0 + k ≡ k = omega arith in z)
            (each_back 0 ps ports ws all (λ j x there. subst (λ m. AreOf o t m x) (let z : j ≡ 0 + j = omega arith in z) (passes.each j x there)) k q e);
      }

      -- ---- what each stream's objects tell

      abbrev ended_two : (p : HostPasses B D g) (port : Port (Lines S s) C K) (r w : Worker (Pass B D g) (Lines S s) C K) → TwoDid p port r w → Ended (Lines S s) C K
      ended_two p port r w two = record { port = record { lines = two.read.lines; clock = two.read.clock; sink = two.wrote.sink }; read = two.read.end; wrote = two.wrote.why }

      ended_is : (p : HostPasses B D g) (port : Port (Lines S s) C K) (r w : Worker (Pass B D g) (Lines S s) C K) (two : TwoDid p port r w) (rest : List (Ended (Lines S s) C K))
          → ended_by r.work w.work rest ≡ ended_two p port r w two ∷ rest
      ended_is p port r w two rest =
          ap (λ (a : Work (Lines S s) C K). ended_by a w.work rest) two.read.is
          ∙ ap (λ (b : Work (Lines S s) C K). ended_by (Reader two.read.lines two.read.clock two.read.end) b rest) two.wrote.is

      pub worked_size : (ps : List (HostPasses B D g)) (ports : List (Port (Lines S s) C K)) (ws : List (Worker (Pass B D g) (Lines S s) C K)) → length ports ≡ length ps → AllDid ps ports ws
          → length (worked_of clock_of sink_of ports (ended_in ws)) ≡ length ps
      worked_size [] [] ws same all = refl
      worked_size [] (port ∷ ports) ws same all = absurd (omega (arith, same))
      worked_size (p ∷ ps) [] ws same all = absurd all
      worked_size (p ∷ ps) (port ∷ ports) [] same all = absurd all
      worked_size (p ∷ ps) (port ∷ ports) (r ∷ []) same all = absurd all
      worked_size (p ∷ ps) (port ∷ ports) (r ∷ w ∷ ws) same all =
          let two = two_did p port r w all.0 all.1 in
          ap (λ (l : List (Ended (Lines S s) C K)). length (worked_of clock_of sink_of (port ∷ ports) l)) (ended_is p port r w two (ended_in ws))
          ∙ ap suc (worked_size ps ports ws (omega (arith, same)) all.2)

      pub ended_size : (ps : List (HostPasses B D g)) (ports : List (Port (Lines S s) C K)) (ws : List (Worker (Pass B D g) (Lines S s) C K)) → AllDid ps ports ws → length (ended_in ws) ≡ length ps
      ended_size [] ports ws all = ap (λ (l : List (Worker (Pass B D g) (Lines S s) C K)). length (ended_in l)) all
      ended_size (p ∷ ps) [] ws all = absurd all
      ended_size (p ∷ ps) (port ∷ ports) [] all = absurd all
      ended_size (p ∷ ps) (port ∷ ports) (r ∷ []) all = absurd all
      ended_size (p ∷ ps) (port ∷ ports) (r ∷ w ∷ ws) all =
          ap length (ended_is p port r w (two_did p port r w all.0 all.1) (ended_in ws)) ∙ ap suc (ended_size ps ports ws all.2)

      made_two : (at : ℕ) (p : HostPasses B D g) (port : Port (Lines S s) C K) (r w : Worker (Pass B D g) (Lines S s) C K) → AreOf o t at p → (two : TwoDid p port r w)
          → HostMade o at p.reader.host (record { reader = r.pass; writer = w.pass }) (worked_one clock_of sink_of port (ended_two p port r w two))
      made_two at p port r w of two =
          let x = worked_one clock_of sink_of port (ended_two p port r w two) in
          let here : slice_get o.hosts at ≡ Some p.reader.host = ap (λ n. slice_get o.hosts n) (sym of.at_reader) ∙ of.reader.pass.here in
          let there : slice_get o.hosts at ≡ Some p.writer.host = ap (λ n. slice_get o.hosts n) (sym of.at_writer) ∙ of.writer.pass.here in
          let same : p.writer.host ≡ p.reader.host = some_same p.writer.host p.reader.host (sym there ∙ here) in
          let even : number_of p.reader.seat ≡ at + at = of.reader.number ∙ ap (λ n. n + n) of.at_reader in
          let odd : number_of p.writer.seat ≡ at + at + 1 = of.writer.number ∙ ap (λ n. n + n + 1) of.at_writer in
          record {
            here = here;
            reader = subst (λ n. ReaderMade o p.reader.host n (seen_of r.pass.seat) x.source x.source_now x.clock x.clock_now x.read) even two.read.did.made;
            writer = subst (λ (h : List ℕ). WriterMade o h (at + at + 1) (seen_of w.pass.seat) x.sink x.sink_now x.wrote) same
                (subst (λ n. WriterMade o p.writer.host n (seen_of w.pass.seat) x.sink x.sink_now x.wrote) odd two.wrote.did.made);
          }

      each_made : (n : ℕ) (ps : List (HostPasses B D g)) (ports : List (Port (Lines S s) C K)) (ws : List (Worker (Pass B D g) (Lines S s) C K)) → length ports ≡ length ps → AllDid ps ports ws
          → ((k : ℕ) (p : HostPasses B D g) → slice_get ps k ≡ Some p → AreOf o t (n + k) p) → (k : ℕ) (x : Worked) → slice_get (worked_of clock_of sink_of ports (ended_in ws)) k ≡ Some x
          → MadeAt o (n + k) k (passes_in ws) x
      each_made n [] [] ws same all each k x e = absurd (cc e)
      each_made n [] (port ∷ ports) ws same all each k x e = absurd (omega (arith, same))
      each_made n (p ∷ ps) [] ws same all each k x e = absurd all
      each_made n (p ∷ ps) (port ∷ ports) [] same all each k x e = absurd all
      each_made n (p ∷ ps) (port ∷ ports) (r ∷ []) same all each k x e = absurd all
      each_made n (p ∷ ps) (port ∷ ports) (r ∷ w ∷ ws) same all each zero x e =
          let two = two_did p port r w all.0 all.1 in
          let one = worked_one clock_of sink_of port (ended_two p port r w two) in
          let is : one ≡ x = some_same one x (ap (λ (l : List (Ended (Lines S s) C K)). slice_get (worked_of clock_of sink_of (port ∷ ports) l) 0) (sym (ended_is p port r w two (ended_in ws))) ∙ e) in
          record {
            h = p.reader.host;
            q = record { reader = r.pass; writer = w.pass };
            there = refl;
            made = subst
                (λ (y : Worked). HostMade o (n + 0) p.reader.host (record { reader = r.pass; writer = w.pass }) y) is (made_two (n + 0) p port r w (each 0 p refl) two);
          }
      each_made n (p ∷ ps) (port ∷ ports) (r ∷ w ∷ ws) same all each (suc k) x e =
          let two = two_did p port r w all.0 all.1 in
          let m = each_made (n + 1) ps ports ws (omega (arith, same)) all.2 (λ j y there. subst (λ m. AreOf o t m y) (let m : n + suc j ≡ n + 1 + j = omega arith in m) (each (suc j) y there)) k x
          (ap (λ (l : List (Ended (Lines S s) C K)). slice_get (worked_of clock_of sink_of (port ∷ ports) l) (suc k)) (sym (ended_is p port r w two (ended_in ws))) ∙ e) in
          record { h = m.h; q = m.q; there = m.there; made = subst (λ i. HostMade o i m.h m.q x) (let i : n + 1 + k ≡ n + suc k = omega arith in i) m.made }

      pub made_at : (ps : List (HostPasses B D g)) (ports : List (Port (Lines S s) C K)) (ws : List (Worker (Pass B D g) (Lines S s) C K)) → length ports ≡ length ps → AllDid ps ports ws
          → ArePasses o t ps
          → (k : ℕ) (x : Worked) → slice_get (worked_of clock_of sink_of ports (ended_in ws)) k ≡ Some x
          → (h : List ℕ) × (q : HostPasses B D g) × (slice_get (passes_in ws) k ≡ Some q) × HostMade o k h q x
      made_at ps ports ws same all passes k x e =
          let m = each_made 0 ps ports ws same all (λ j y there. subst (λ m. AreOf o t m y) (let z : j ≡ 0 + j = omega arith in z) (passes.each j y there)) k x e in
          (m.h, m.q, m.there, subst (λ i. HostMade o i m.h m.q x) (let z : 0 + k ≡ k = omega arith in z) m.made)
