-- Streams that were opened in a world, served over a disk, and given back.
use Rattle.std.proofs.Common.{◌≡◌, ℕ, zero, suc, ◌<◌, List, [], ◌∷◌, inl, inr, length, ◌∙◌, ap, subst, arith}
use Rattle.std.specs.Prelude.{get_or}
use Rattle.std.proofs.lemmas.List.{length-map}
use Rattle.ps_disk.specs.declared.device.Disk.{Ghosts as DiskGhosts}
use Rattle.ps_io.specs.declared.clock.Clock.{Ghosts as ClockGhosts}
use Rattle.ps_io.specs.declared.world.World.{Ghosts}
use Rattle.ps_endpoints.specs.Ports.{AtEach, IsPortHeld, IsPortOpened, LeavesOthers}
use Rattle.ps_endpoints.specs.declared.port.Port.{Port}
use Rattle.ps_wire.specs.Reading.{IsFresh}
use Rattle.ps_wire.specs.declared.lines.Lines.{Lines}
use Rattle.ps_wire.specs.declared.streams.Sink.{Ghosts as SinkGhosts}
use Rattle.ps_wire.specs.declared.streams.Source.{Ghosts as SourceGhosts}
use Rattle.ps_args.specs.declared.command.Stream.{Stream}
use Rattle.ps_args.specs.Words.{hosts_of}
use Rattle.ps_workers.specs.Headline.{Worked}
use Rattle.ps_workers.specs.Teams.{worked_of}
use Rattle.ps_workers.specs.declared.serving.Ended.{Ended}
use Rattle.ps_serve.specs.Comes.{Comes, ComesServed}
use Rattle.ps_serve.specs.Ends.{IsServing}
use Rattle.ps_serve.specs.Headline.{Headline, IdleCause}
use Rattle.ps_status.specs.Outside.{held_as, outside}
use Rattle.ps_serve.specs.Runs.{RanOver, RanServing}
use Rattle.ps_status.specs.declared.status.Status.{Status}
use Rattle.ps_status.specs.declared.status.Status.TheVariants.{OpenFault}
use Rattle.ps_serve.specs.declared.storing.Run.{Run}
use Rattle.ps_serve.proofs.Streams.{all-back}
use Rattle.ps_serve.proofs.Works.{clock_by, each-told, sink_by}

-- ---- by what comes of it

module _ {D L C K : Type 0} (g : DiskGhosts D) (works : List (Port L C K) → List (Ended L C K) → List Worked) (service : List ℕ) (hosts : List (List ℕ)) (disk : D)
    (ports : List (Port L C K)) (run : Run D (Port L C K)) where
  pub as-many : Comes g works service hosts disk ports run → length run.ports.items ≡ length ports
  as-many (inl idle) = ap length idle.same
  as-many (inr served) = ap length served.back ∙ (length-map served.ended (λ e. e.port) ∙ served.many)

  -- nothing is opened any more
  pub not-open : Comes g works service hosts disk ports run → run.status ≡ OpenFault → ⊥
  not-open (inl idle) e = subst (λ (st : Status). IdleCause g.tells service (held_as g disk) (held_as g run.disk) st) e idle.idle.cause
  not-open (inr served) e = subst IsServing e served.headline.ended.served

-- ---- by the world

module _ {W S K D C : Type 0} (w : Ghosts W S K D C) {s : SourceGhosts S} (k : SinkGhosts K) (c : ClockGhosts C) where
  pub opened-fresh : (world : W) (streams : List Stream) (ports : List (Port (Lines S s) C K)) → AtEach (IsPortOpened w {r = s} k c world) streams ports
      → (n : ℕ) (d : Port (Lines S s) C K) → n < length ports → IsFresh (get_or ports n d).lines
  opened-fresh world [] [] a n d less = absurd (omega (arith, less))
  opened-fresh world [] (p ∷ ps) a n d less = absurd a
  opened-fresh world (x ∷ xs) [] a n d less = absurd a
  opened-fresh world (x ∷ xs) (p ∷ ps) a zero d less = a.0.fresh
  opened-fresh world (x ∷ xs) (p ∷ ps) a (suc n) d less = opened-fresh world xs ps a.1 n d (omega (arith, less))

  module _ (g : DiskGhosts D) (service : List ℕ) (streams : List Stream) (disk : D) (old new : W) (ports : List (Port (Lines S s) C K))
      (run : Run D (Port (Lines S s) C K)) (was : AtEach (IsPortOpened w {r = s} k c old) streams ports)
      (is : AtEach (IsPortHeld w {r = s} k c new) streams run.ports.items) (leaves : LeavesOthers w streams old new) where
    held-at : (back : List (Port (Lines S s) C K)) → run.ports.items ≡ back → AtEach (IsPortHeld w {r = s} k c new) streams back
    held-at back e = subst (λ (l : List (Port (Lines S s) C K)). AtEach (IsPortHeld w {r = s} k c new) streams l) e is

    serving : (hosts : List (List ℕ)) → hosts ≡ hosts_of streams → ComesServed g (worked_of (clock_by c) (sink_by k)) service hosts disk ports run
        → RanServing g.tells service streams (outside w old) (outside w new) (held_as g disk) (held_as g run.disk) (g.left_since run.disk) run.status
    serving hosts e served = record {
      worked = worked_of (clock_by c) (sink_by k) ports served.ended;
      size = served.size ∙ (ap length e ∙ length-map streams (λ x. x.host));
      told = each-told w k c old new streams ports served.ended was (held-at _ served.back);
      headline =
          subst (λ (hs : List (List ℕ)). Headline g.tells service hs (worked_of (clock_by c) (sink_by k) ports served.ended) (held_as g disk) (held_as g run.disk)
          (g.left_since run.disk) run.status) e served.headline;
    }

    pub ran-over : (hosts : List (List ℕ)) → hosts ≡ hosts_of streams → Comes g (worked_of (clock_by c) (sink_by k)) service hosts disk ports run
        → RanOver g service streams (outside w old) (outside w new) disk run.disk run.status
    ran-over hosts e (inl idle) = inr (inl (record { same = all-back w k c old new streams ports was (held-at ports idle.same) leaves; idle = idle.idle }))
    ran-over hosts e (inr served) = inr (inr (serving hosts e served))
