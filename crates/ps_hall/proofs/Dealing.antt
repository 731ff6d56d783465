-- The seats of a new hall are dealt out to its hosts.
use Rattle.std.proofs.Common.{◌≡◌, ℕ, suc, ◌+◌, inl, inr, List, [], ◌∷◌, ◌++◌, map, Some, length, refl, ap, sym, ◌∙◌, subst, arith, length-append}
use Rattle.std.specs.Prelude.{slice_get}
use Rattle.ps_disk.specs.declared.device.Disk.{Ghosts}
use Rattle.ps_world.proofs.Lists.{get-snoc}
use Rattle.ps_twin.specs.declared.twin.TwinSeat.{TwinSeat}
use Rattle.ps_twin.specs.Seats.{AreNew, IsNew, seats_of, seen_of}
use Rattle.ps_types.specs.declared.jid.Jid.{Jid}
use Rattle.ps_trace.specs.Did.{HasInHand}
use Rattle.ps_trace.proofs.Flying.{hand-none}
use Rattle.ps_trace.specs.Own.{AreOwned}
use Rattle.ps_trace.specs.declared.deed.Deed.{Deed}
use Rattle.ps_hall.specs.Calls.{IsPass, IsReader, IsWriter}
use Rattle.ps_hall_flush.specs.Homes.{world_at}
use Rattle.ps_hall_flush.specs.Origin.{Origin}
use Rattle.ps_hall.specs.Passes.{AreFresh, AreOf, ArePassesOf, IsFresh, IsPassOf, OurTwin, named}
use Rattle.ps_hall_flush.specs.declared.home.Archive.{Archive}
use Rattle.ps_hall_flush.specs.declared.home.Home.{Home}
use Rattle.ps_hall.specs.declared.hall.HostPasses.{HostPasses}
use Rattle.ps_hall.specs.declared.hall.Pass.{Pass}
use Rattle.ps_hall.specs.declared.opening.Names.{Names}

module _ {B D : Type 0} {g : Ghosts D} (o : Origin) (t : OurTwin B D g) where
  -- the name of the host at this place
  abbrev pub IsNamed : ℕ → Names → Type 0
  IsNamed k n = (slice_get o.hosts k ≡ Some n.reader) × (n.writer ≡ n.reader)

  -- the names of the hosts from this place on, and for each two new seats
  abbrev pub Dealt : ℕ → List Names → List (TwinSeat (Home B) (Archive B D g) Deed) → Type 0
  Dealt k [] seats = k ≡ length o.hosts
  Dealt k (n ∷ ns) [] = ⊥
  Dealt k (n ∷ ns) (r ∷ []) = ⊥
  Dealt k (n ∷ ns) (r ∷ w ∷ ss) = IsNamed k n × IsNew t (k + k) r × IsNew t (k + k + 1) w × Dealt (k + 1) ns ss

  pub record AreFreshOf (at : ℕ) (p : HostPasses B D g) : Type 0 where
    pub passes : AreOf o t at p
    pub reader : IsFresh o p.reader
    pub writer : IsFresh o p.writer

  abbrev pub FreshSoFar : List (HostPasses B D g) → Type 0
  FreshSoFar passes = (k : ℕ) (p : HostPasses B D g) → slice_get passes k ≡ Some p → AreFreshOf k p

  pub none_so_far : (passes : List (HostPasses B D g)) → passes ≡ [] → FreshSoFar passes
  none_so_far passes none = subst (λ (l : List (HostPasses B D g)). FreshSoFar l) (sym none) (λ k p h. cc)

  dealt_from : (k : ℕ) (hs : List (List ℕ)) (seats : List (TwinSeat (Home B) (Archive B D g) Deed)) → ((i : ℕ) (h : List ℕ) → slice_get hs i ≡ Some h → slice_get o.hosts (k + i) ≡ Some h)
      → k + length hs ≡ length o.hosts → ((i : ℕ) (s : TwinSeat (Home B) (Archive B D g) Deed) → slice_get seats i ≡ Some s → IsNew t (k + k + i) s) → length seats ≡ length hs + length hs
      → Dealt k (map named hs) seats
  dealt_from k [] seats there all new size = omega (arith, all)
  dealt_from k (h ∷ hs) [] there all new size = absurd (omega (arith, size))
  dealt_from k (h ∷ hs) (r ∷ []) there all new size = absurd (omega (arith, size))
  dealt_from k (h ∷ hs) (r ∷ w ∷ ss) there all new size =
      let here : k + 0 ≡ k = omega arith in
      let first : k + k + 0 ≡ k + k = omega arith in (
        (subst (λ n. slice_get o.hosts n ≡ Some h) here (there 0 h refl), refl),
        subst (λ n. IsNew t n r) first (new 0 r refl),
        new 1 w refl,
        dealt_from (k + 1) hs ss
            (λ i x e. subst (λ n. slice_get o.hosts n ≡ Some x) (let s : k + suc i ≡ k + 1 + i = omega arith in s) (there (suc i) x e))
            (omega (arith, all))
            (λ i s e. subst (λ n. IsNew t n s) (let m : k + k + suc (suc i) ≡ k + 1 + (k + 1) + i = omega arith in m) (new (suc (suc i)) s e))
            (omega (arith, size)),
      )

  pub dealt_all : (names : List Names) (seats : List (TwinSeat (Home B) (Archive B D g) Deed)) → names ≡ map named o.hosts → seats_of t ≡ length o.hosts + length o.hosts → AreNew t seats
      → Dealt 0 names seats
  dealt_all names seats is two new =
      let all = new.all in
      let size : length seats ≡ length o.hosts + length o.hosts = all ∙ two in
      subst (λ l. Dealt 0 l seats) (sym is) (dealt_from 0 o.hosts seats
      (λ i h e. subst (λ n. slice_get o.hosts n ≡ Some h) (let z : i ≡ 0 + i = omega arith in z) e)
      (omega arith)
      (λ i s e. subst (λ n. IsNew t n s) (let z : i ≡ 0 + 0 + i = omega arith in z) (new.each i s e))
      size)

  pub dealt_length : (k : ℕ) (names : List Names) (seats : List (TwinSeat (Home B) (Archive B D g) Deed)) → Dealt k names seats → k + length names ≡ length o.hosts
  dealt_length k [] seats d = omega (arith, d)
  dealt_length k (n ∷ ns) [] d = absurd d
  dealt_length k (n ∷ ns) (r ∷ []) d = absurd d
  dealt_length k (n ∷ ns) (r ∷ w ∷ ss) d = let more = dealt_length (k + 1) ns ss d.3 in omega (arith, more)

  -- there are two seats for the next host
  pub two_more : (k : ℕ) (names ns : List Names) (n : Names) (seats : List (TwinSeat (Home B) (Archive B D g) Deed)) → names ≡ n ∷ ns → Dealt k names seats
      → (r : TwinSeat (Home B) (Archive B D g) Deed) × (w : TwinSeat (Home B) (Archive B D g) Deed) × (ss : List (TwinSeat (Home B) (Archive B D g) Deed)) × (seats ≡ r ∷ w ∷ ss)
  two_more k names ns n seats split d = heads seats (subst (λ l. Dealt k l seats) split d)
    where
      heads : (seats : List (TwinSeat (Home B) (Archive B D g) Deed)) → Dealt k (n ∷ ns) seats
          → (r : TwinSeat (Home B) (Archive B D g) Deed) × (w : TwinSeat (Home B) (Archive B D g) Deed) × (ss : List (TwinSeat (Home B) (Archive B D g) Deed)) × (seats ≡ r ∷ w ∷ ss)
      heads [] d = absurd d
      heads (r ∷ []) d = absurd d
      heads (r ∷ w ∷ ss) d = (r, w, ss, refl)

  is_pass : (k m : ℕ) (host : List ℕ) (s : TwinSeat (Home B) (Archive B D g) Deed) → slice_get o.hosts k ≡ Some host → IsNew t m s → IsPass o t k host s
  is_pass k m host s here new = record { call = record { twin = new.twin; free = new.free }; here = here; owned = subst (λ l. AreOwned o.hosts l) (sym new.seen) tt }

  is_fresh : (k m : ℕ) (host : List ℕ) (s : TwinSeat (Home B) (Archive B D g) Deed) (p : Pass B D g) → IsPassOf k host s p → IsNew t m s → IsFresh o p
  is_fresh k m host s p is new =
      let seen = ap (λ (x : TwinSeat (Home B) (Archive B D g) Deed). seen_of x) is.seat ∙ new.seen in
      record {
        seen = seen;
        hand = is.hand;
        none = subst (λ (l : List Jid). HasInHand p.host l (world_at o (seen_of p.seat))) (sym is.hand)
            (subst (λ l. HasInHand p.host [] (world_at o l)) (sym seen) (hand-none p.host (world_at o []) (λ a e. refl)));
      }

  reader_of : (k : ℕ) (host : List ℕ) (s : TwinSeat (Home B) (Archive B D g) Deed) (p : Pass B D g) → IsPassOf k host s p → slice_get o.hosts k ≡ Some host → IsNew t (k + k) s
      → IsReader o t p.at p.host p.seat
  reader_of k host s p is here new =
      subst (λ a. IsReader o t a p.host p.seat) (sym is.at_is) (subst (λ h. IsReader o t k h p.seat) (sym is.host_is)
      (subst (λ (x : TwinSeat (Home B) (Archive B D g) Deed). IsReader o t k host x) (sym is.seat)
      (record { pass = is_pass k (k + k) host s here new; number = new.number })))

  writer_of : (k : ℕ) (host : List ℕ) (s : TwinSeat (Home B) (Archive B D g) Deed) (p : Pass B D g) → IsPassOf k host s p → slice_get o.hosts k ≡ Some host → IsNew t (k + k + 1) s
      → IsWriter o t p.at p.host p.seat
  writer_of k host s p is here new =
      subst (λ a. IsWriter o t a p.host p.seat) (sym is.at_is) (subst (λ h. IsWriter o t k h p.seat) (sym is.host_is)
      (subst (λ (x : TwinSeat (Home B) (Archive B D g) Deed). IsWriter o t k host x) (sym is.seat)
      (record { pass = is_pass k (k + k + 1) host s here new; number = new.number })))

  fresh_of : (k : ℕ) (n : Names) (r w : TwinSeat (Home B) (Archive B D g) Deed) (p : HostPasses B D g) → ArePassesOf k n r w p → IsNamed k n → IsNew t (k + k) r → IsNew t (k + k + 1) w
      → AreFreshOf k p
  fresh_of k n r w p are here new_r new_w =
      let there : slice_get o.hosts k ≡ Some n.writer = here.0 ∙ ap (λ h. Some h) (sym here.1) in
      record {
        passes = record {
          reader = reader_of k n.reader r p.reader are.reader here.0 new_r;
          writer = writer_of k n.writer w p.writer are.writer there new_w;
          at_reader = are.reader.at_is;
          at_writer = are.writer.at_is;
        };
        reader = is_fresh k (k + k) n.reader r p.reader are.reader new_r;
        writer = is_fresh k (k + k + 1) n.writer w p.writer are.writer new_w;
      }

  -- the next host gets its passes
  pub dealt_on : (names ns : List Names) (n : Names) (seats ss : List (TwinSeat (Home B) (Archive B D g) Deed)) (r w : TwinSeat (Home B) (Archive B D g) Deed) (at : ℕ) (p : HostPasses B D g)
      (passes now : List (HostPasses B D g)) →
      names ≡ n ∷ ns → seats ≡ r ∷ w ∷ ss → at ≡ length passes → ArePassesOf at n r w p → now ≡ passes ++ p ∷ [] → Dealt (length passes) names seats → FreshSoFar passes
      → Dealt (length now) ns ss × FreshSoFar now
  dealt_on names ns n seats ss r w at p passes now split two is_at are is d so_far =
      let k = length passes in
      let e : Dealt k (n ∷ ns) (r ∷ w ∷ ss) = subst (λ l. Dealt k l (r ∷ w ∷ ss)) split (subst (λ l. Dealt k names l) two d) in
      let size : length now ≡ k + 1 = ap length is ∙ (length-append passes (p ∷ []) ∙ omega arith) in
      let fresh : AreFreshOf k p = fresh_of k n r w p (subst (λ m. ArePassesOf m n r w p) is_at are) e.0 e.1 e.2 in (
        subst (λ m. Dealt m ns ss) (sym size) e.3,
        subst (λ (l : List (HostPasses B D g)). FreshSoFar l) (sym is)
            (λ j q here. elim (get-snoc passes p j q here) [
              | inl old ↦ so_far j q old.1
              | inr new ↦ subst (λ x. AreFreshOf j x) new.1 (subst (λ m. AreFreshOf m p) (sym new.0) fresh)
            ]),
      )

  pub dealt_out : (passes : List (HostPasses B D g)) → length passes ≡ length o.hosts → FreshSoFar passes → AreFresh o t passes
  dealt_out passes size so_far = record { all = record { size = size; each = λ k p e. (so_far k p e).passes }; each = λ k p e. (let f = so_far k p e in (f.reader, f.writer)) }
