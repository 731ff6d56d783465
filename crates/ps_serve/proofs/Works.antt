-- What the objects of the streams tell, by their ports.
use Rattle.std.proofs.Common.{◌≡◌, ℕ, zero, suc, List, [], ◌∷◌, Option, Some, length, map, refl, ap, subst, arith}
use Rattle.std.specs.Prelude.{slice_get}
use Rattle.ps_disk.specs.declared.device.Disk.{Ghosts as DiskGhosts}
use Rattle.ps_io.specs.Held.{Held, HeldClock, HeldStore, IsHeld, IsHeldClock, IsHeldStore}
use Rattle.ps_io.specs.declared.clock.Clock.{Ghosts as ClockGhosts}
use Rattle.ps_io.specs.declared.world.World.{Ghosts}
use Rattle.ps_endpoints.specs.Ports.{AtEach, IsPortHeld, IsPortOpened}
use Rattle.ps_endpoints.specs.declared.port.Port.{Port}
use Rattle.ps_wire.specs.declared.lines.Lines.{Lines}
use Rattle.ps_wire.specs.declared.streams.Sink.{Ghosts as SinkGhosts}
use Rattle.ps_wire.specs.declared.streams.Source.{Ghosts as SourceGhosts}
use Rattle.ps_args.specs.declared.command.Stream.{Stream}
use Rattle.ps_workers.specs.Headline.{Worked}
use Rattle.ps_workers.specs.Teams.{worked_of, worked_one}
use Rattle.ps_workers.specs.Working.{clocks, sinks}
use Rattle.ps_workers.specs.declared.serving.Ended.{Ended}
use Rattle.ps_serve.specs.Ends.{stream_status, worst, worst_in, worst_of}
use Rattle.ps_serve.specs.Worked.{IsWorkedIn}
use Rattle.ps_status.specs.Outside.{held_as, outside}
use Rattle.ps_status.proofs.Moved.{held-is}

-- ---- what is held is what the object tells

pub clock-is : (h : HeldClock) (faults : ℕ) (told : Option (List (Option ℕ))) → IsHeldClock h faults told → record { faults = faults; told = told } ≡ h
clock-is h faults told is = λ i. record { faults = is.same_faults i; told = is.same_told i }

-- ---- the streams that have ended

module _ {S C K : Type 0} {s : SourceGhosts S} (clock_of : C → HeldClock) (sink_of : K → Held) where
  pub worst-same : (ports : List (Port (Lines S s) C K)) (ended : List (Ended (Lines S s) C K)) → length ended ≡ length ports
      → worst_of (worked_of clock_of sink_of ports ended) ≡ worst_in (λ (e : Ended (Lines S s) C K). e.read) (λ (e : Ended (Lines S s) C K). e.wrote) ended
  worst-same [] [] e = refl
  worst-same [] (x ∷ xs) e = absurd (omega (arith, e))
  worst-same (p ∷ ps) [] e = absurd (omega (arith, e))
  worst-same (p ∷ ps) (x ∷ xs) e = ap (λ z. worst (stream_status x.read x.wrote) z) (worst-same ps xs (omega (arith, e)))

  pub length-same : (ports : List (Port (Lines S s) C K)) (ended : List (Ended (Lines S s) C K)) → length ended ≡ length ports
      → length (worked_of clock_of sink_of ports ended) ≡ length ports
  length-same [] [] e = refl
  length-same [] (x ∷ xs) e = absurd (omega (arith, e))
  length-same (p ∷ ps) [] e = absurd (omega (arith, e))
  length-same (p ∷ ps) (x ∷ xs) e = ap suc (length-same ps xs (omega (arith, e)))

-- ---- ports that were opened, and are given back

abbrev pub clock_by : {C : Type 0} → ClockGhosts C → C → HeldClock
clock_by c clock = clocks c.faults c.told clock

abbrev pub sink_by : {K : Type 0} → SinkGhosts K → K → Held
sink_by k sink = sinks k.faults k.written sink

module _ {W S K D C : Type 0} (w : Ghosts W S K D C) {s : SourceGhosts S} (k : SinkGhosts K) (c : ClockGhosts C) where
  -- all are there and fresh
  pub opened-size : (world : W) (streams : List Stream) (ports : List (Port (Lines S s) C K)) → AtEach (IsPortOpened w {r = s} k c world) streams ports → length ports ≡ length streams
  opened-size world [] [] a = refl
  opened-size world [] (p ∷ ps) a = absurd a
  opened-size world (x ∷ xs) [] a = absurd a
  opened-size world (x ∷ xs) (p ∷ ps) a = ap suc (opened-size world xs ps a.1)

  module _ (old new : W) where
    one-told : (x : Stream) (p : Port (Lines S s) C K) (e : Ended (Lines S s) C K) → IsPortHeld w {r = s} k c old x p → IsPortHeld w {r = s} k c new x e.port
        → IsWorkedIn (outside w old) (outside w new) x (worked_one (clock_by c) (sink_by k) p e)
    one-told x p e was is = record {
      source = held-is _ _ _ was.source;
      source_now = held-is _ _ _ is.source;
      clock = clock-is _ _ _ was.clock;
      clock_now = clock-is _ _ _ is.clock;
      sink = held-is _ _ _ was.sink;
      sink_now = held-is _ _ _ is.sink;
    }

    pub each-told : (streams : List Stream) (ports : List (Port (Lines S s) C K)) (ended : List (Ended (Lines S s) C K))
        → AtEach (IsPortOpened w {r = s} k c old) streams ports → AtEach (IsPortHeld w {r = s} k c new) streams (map (λ (e : Ended (Lines S s) C K). e.port) ended)
        → (i : ℕ) (x : Stream) (t : Worked) → slice_get streams i ≡ Some x → slice_get (worked_of (clock_by c) (sink_by k) ports ended) i ≡ Some t
        → IsWorkedIn (outside w old) (outside w new) x t
    each-told [] ports ended was is i x t at_x at_t = absurd (cc at_x)
    each-told (y ∷ ys) [] ended was is i x t at_x at_t = absurd was
    each-told (y ∷ ys) (p ∷ ps) [] was is i x t at_x at_t = absurd (cc at_t)
    each-told (y ∷ ys) (p ∷ ps) (e ∷ es) was is zero x t at_x at_t =
        let same_x : y ≡ x = cc at_x in
        let same_t : worked_one (clock_by c) (sink_by k) p e ≡ t = cc at_t in
        subst (λ (z : Stream). IsWorkedIn (outside w old) (outside w new) z t) same_x
        (subst (λ (z : Worked). IsWorkedIn (outside w old) (outside w new) y z) same_t (one-told y p e was.0.held is.0))
    each-told (y ∷ ys) (p ∷ ps) (e ∷ es) was is (suc i) x t at_x at_t = each-told ys ps es was.1 is.1 i x t at_x at_t
