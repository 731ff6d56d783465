-- What the port of one stream changes, beside those of others.
use Rattle.std.proofs.Common.{◌≡◌, inl, inr, ℕ, suc, ◌≤◌, List, [], ◌∷◌, ◌++◌, length, refl, sym, ap, ◌∙◌, subst, arith}
use Rattle.std.specs.Prelude.{◌⊎◌}
use Rattle.ps_wire.specs.Reading.{source_of}
use Rattle.ps_wire.specs.declared.lines.Lines.{Lines}
use Rattle.ps_wire.specs.declared.streams.Sink.{Ghosts as SinkGhosts}
use Rattle.ps_wire.specs.declared.streams.Source.{Ghosts as SourceGhosts}
use Rattle.ps_io.specs.Held.{Held, HeldClock, IsHeld, IsHeldClock}
use Rattle.ps_io.specs.declared.clock.Clock.{Ghosts as ClockGhosts}
use Rattle.ps_io.specs.declared.world.Kind.TheVariants.{Source, Sink, Store, Clock}
use Rattle.ps_io.specs.declared.world.World.{Ghosts}
use Rattle.ps_args.specs.declared.command.Stream.{Stream}
use Rattle.ps_endpoints.specs.declared.port.Port.{Port}
use Rattle.ps_endpoints.specs.Ports.{AllBack, AreApart, AreOpen, AreOpened, AtEach, IsOpenPort, IsOther, IsPortHeld, IsPortOpened, IsWithin, LeavesOthers}
use Rattle.ps_endpoints.proofs.Back.{clock-same, held-same, returned}

-- no stream opens a store
pub no-store : (name : List ℕ) (streams : List Stream) → IsOther Store name streams
no-store name [] = tt
no-store name (stream ∷ streams) = (tt, no-store name streams)

-- as many as the streams
pub each-many : {P : Type 0} (Is : Stream → P → Type 0) (streams : List Stream) (ports : List P) → AtEach Is streams ports → length ports ≡ length streams
each-many Is [] [] are = refl
each-many Is [] (port ∷ ports) are = absurd are
each-many Is (stream ∷ streams) [] are = absurd are
each-many Is (stream ∷ streams) (port ∷ ports) are = ap suc (each-many Is streams ports are.1)

-- the last of a list is one
pub same-last : {T : Type 0} (xs ys : List T) (x y : T) → xs ++ x ∷ [] ≡ ys ++ y ∷ [] → x ≡ y
same-last [] [] x y same = cc
same-last [] (a ∷ []) x y same = cc
same-last [] (a ∷ b ∷ ys) x y same = cc
same-last (a ∷ []) [] x y same = cc
same-last (a ∷ b ∷ xs) [] x y same = cc
same-last (a ∷ xs) (b ∷ ys) x y same = let tails : xs ++ x ∷ [] ≡ ys ++ y ∷ [] = cc in same-last xs ys x y tails

-- one more time
pub later-last : (a b c : ℕ) (la lb lc : ℕ × ℕ) → a ≤ b → b ≤ c → (lb ≡ la) ⊎ IsWithin a lb b → (lc ≡ lb) ⊎ IsWithin b lc c → (lc ≡ la) ⊎ IsWithin a lc c
later-last a b c la lb lc ab bc first (inr is) = inr (record { since = omega arith; later = is.later; until = is.until })
later-last a b c la lb lc ab bc (inl same) (inl still) = inl (still ∙ same)
later-last a b c la lb lc ab bc (inr is) (inl still) =
    inr (subst (λ (l : ℕ × ℕ). IsWithin a l c) (sym still) (record { since = is.since; later = is.later; until = omega arith }))

module _ {S R K D C : Type 0} (w : Ghosts S R K D C) where
  -- two changes in a row
  pub one-more-change : (streams : List Stream) (old mid new : S) → LeavesOthers w streams old mid → LeavesOthers w streams mid new → LeavesOthers w streams old new
  one-more-change streams old mid new one two = record {
    sources = λ n other. two.sources n other ∙ one.sources n other;
    sinks = λ n other. two.sinks n other ∙ one.sinks n other;
    clocks = λ n other. two.clocks n other ∙ one.clocks n other;
    stores = λ n. two.stores n ∙ one.stores n;
    lefts = λ n t x. (λ was. (two.lefts n t x).0 ((one.lefts n t x).0 was), λ is. (one.lefts n t x).1 ((two.lefts n t x).1 is));
    stay = λ k n other is. two.stay k n other (one.stay k n other is);
    reported = two.reported ∙ one.reported;
    later = omega (arith, one.later, two.later);
    last = later-last _ _ _ _ _ _ one.later two.later one.last two.last;
  }

  -- among more streams
  pub of-first : (stream : Stream) (streams : List Stream) (old new : S) → LeavesOthers w (stream ∷ []) old new → LeavesOthers w (stream ∷ streams) old new
  of-first stream streams old new one = record {
    sources = λ n other. one.sources n (other.0, tt);
    sinks = λ n other. one.sinks n (other.0, tt);
    clocks = λ n other. one.clocks n (other.0, tt);
    stores = one.stores;
    lefts = one.lefts;
    stay = λ k n other. one.stay k n (other.0, tt);
    reported = one.reported;
    later = one.later;
    last = one.last;
  }

  pub of-rest : (stream : Stream) (streams : List Stream) (old new : S) → LeavesOthers w streams old new → LeavesOthers w (stream ∷ streams) old new
  of-rest stream streams old new rest = record {
    sources = λ n other. rest.sources n other.1;
    sinks = λ n other. rest.sinks n other.1;
    clocks = λ n other. rest.clocks n other.1;
    stores = rest.stores;
    lefts = rest.lefts;
    stay = λ k n other. rest.stay k n other.1;
    reported = rest.reported;
    later = rest.later;
    last = rest.last;
  }

  -- the first, and then the rest
  pub both : (stream : Stream) (streams : List Stream) (old mid new : S) → LeavesOthers w (stream ∷ []) old mid → LeavesOthers w streams mid new → LeavesOthers w (stream ∷ streams) old new
  both stream streams old mid new one rest = one-more-change (stream ∷ streams) old mid new (of-first stream streams old mid one) (of-rest stream streams mid new rest)

  -- what the first has open stays open while the rest is changed
  pub first-open : (stream : Stream) (streams : List Stream) (old new : S) → AreApart (stream ∷ streams) → LeavesOthers w streams old new → IsOpenPort w old stream → IsOpenPort w new stream
  first-open stream streams old new apart rest is = record {
    source = rest.stay Source stream.source apart.0 is.source;
    sink = rest.stay Sink stream.sink apart.1 is.sink;
    clock = rest.stay Clock stream.host apart.2 is.clock;
  }

  -- and what the rest has while the first is
  pub rest-open : (stream : Stream) (streams : List Stream) (old new : S) → IsOther Source stream.source streams → IsOther Sink stream.sink streams → IsOther Clock stream.host streams
      → LeavesOthers w (stream ∷ []) old new → AreOpen w old streams → AreOpen w new streams
  rest-open stream [] old new source sink clock one are = tt
  rest-open stream (next ∷ streams) old new source sink clock one are = (
    record {
      source = one.stay Source next.source (λ e. source.0 (sym e), tt) are.0.source;
      sink = one.stay Sink next.sink (λ e. sink.0 (sym e), tt) are.0.sink;
      clock = one.stay Clock next.host (λ e. clock.0 (sym e), tt) are.0.clock;
    },
    rest-open stream streams old new source.1 sink.1 clock.1 one are.1,
  )

  -- no ports of no streams
  pub none-opened : (r : SourceGhosts R) (k : SinkGhosts K) (c : ClockGhosts C) (streams : List Stream) (world : S) → length streams ≡ 0 → AreOpened w {r = r} k c world streams []
  none-opened r k c [] world none = tt
  none-opened r k c (stream ∷ streams) world none = omega arith

  module _ {r : SourceGhosts R} (k : SinkGhosts K) (c : ClockGhosts C) where
    -- a port that the world holds under the stream's names, where they have what they had
    pub held-by-names : (stream : Stream) (port : Port (Lines R r) C K) (old new : S)
        → w.sources new stream.source ≡ w.sources old stream.source → w.sinks new stream.sink ≡ w.sinks old stream.sink → w.clocks new stream.host ≡ w.clocks old stream.host
        → IsPortHeld w k c old stream port → IsPortHeld w k c new stream port
    held-by-names stream port old new sources sinks clocks is = record {
      source = subst (λ (h : Held). IsHeld h (r.faults (source_of port.lines)) (r.left (source_of port.lines))) (sym sources) is.source;
      sink = subst (λ (h : Held). IsHeld h (k.faults port.sink) (k.written port.sink)) (sym sinks) is.sink;
      clock = subst (λ (h : HeldClock). IsHeldClock h (c.faults port.clock) (c.told port.clock)) (sym clocks) is.clock;
    }

    -- an opened port, under another name
    pub held-as-opened : (stream : Stream) (port same : Port (Lines R r) C K) (world : S) → port ≡ same → IsPortOpened w k c world stream port → IsPortHeld w k c world stream same
    held-as-opened stream port same world e is = subst (λ (p : Port (Lines R r) C K). IsPortHeld w k c world stream p) e is.held

    -- the first port stays held while the rest is changed
    pub first-held : (stream : Stream) (streams : List Stream) (port : Port (Lines R r) C K) (old new : S) → AreApart (stream ∷ streams) → LeavesOthers w streams old new
        → IsPortHeld w k c old stream port → IsPortHeld w k c new stream port
    first-held stream streams port old new apart rest is =
        held-by-names stream port old new (rest.sources stream.source apart.0) (rest.sinks stream.sink apart.1) (rest.clocks stream.host apart.2) is

    -- what the rest was opened from was there before the first was opened
    pub rest-opened : (stream : Stream) (streams : List Stream) (ports : List (Port (Lines R r) C K)) (old new : S)
        → IsOther Source stream.source streams → IsOther Sink stream.sink streams → IsOther Clock stream.host streams
        → LeavesOthers w (stream ∷ []) old new → AreOpened w k c new streams ports → AreOpened w k c old streams ports
    rest-opened stream [] [] old new source sink clock one are = tt
    rest-opened stream [] (port ∷ ports) old new source sink clock one are = are
    rest-opened stream (next ∷ streams) [] old new source sink clock one are = are
    rest-opened stream (next ∷ streams) (port ∷ ports) old new source sink clock one are = (
      record {
        held = held-by-names next port new old
            (sym (one.sources next.source (λ e. source.0 (sym e), tt)))
            (sym (one.sinks next.sink (λ e. sink.0 (sym e), tt)))
            (sym (one.clocks next.host (λ e. clock.0 (sym e), tt)))
            are.0.held;
        fresh = are.0.fresh;
      },
      rest-opened stream streams ports old new source.1 sink.1 clock.1 one are.1,
    )

    -- the first is given back as it was opened, and the rest is as it was
    pub first-back : (stream : Stream) (port : Port (Lines R r) C K) (old mid after new : S)
        → LeavesOthers w (stream ∷ []) old mid → AllBack w mid after → LeavesOthers w (stream ∷ []) after new
        → IsPortHeld w k c old stream port → IsPortHeld w k c new stream port → AllBack w old new
    first-back stream port old mid after new one back two was is = record {
      sources = returned stream.source (w.sources old) (w.sources new)
          (λ n differ. two.sources n (differ, tt) ∙ (back.sources n ∙ one.sources n (differ, tt)))
          (held-same _ _ _ _ was.source is.source);
      sinks = returned stream.sink (w.sinks old) (w.sinks new)
          (λ n differ. two.sinks n (differ, tt) ∙ (back.sinks n ∙ one.sinks n (differ, tt)))
          (held-same _ _ _ _ was.sink is.sink);
      clocks = returned stream.host (w.clocks old) (w.clocks new)
          (λ n differ. two.clocks n (differ, tt) ∙ (back.clocks n ∙ one.clocks n (differ, tt)))
          (clock-same _ _ _ _ was.clock is.clock);
    }
