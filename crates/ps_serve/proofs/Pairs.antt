-- Two stores that were opened in a world, compacted the one to the other, and given back; and then a report.
use Rattle.std.proofs.Common.{◌≡◌, ◌≢◌, ◌≤◌, inl, inr, ℕ, List, Option, Some, None, refl, sym, ap, ◌∙◌, subst}
use Rattle.std.specs.Prelude.{IfSome}
use Rattle.ps_disk.specs.declared.device.Disk.{Ghosts as DiskGhosts}
use Rattle.ps_compact.specs.declared.compacting.CompactOutcome.{CompactOutcome}
use Rattle.ps_io.specs.Held.{HeldStore, IsHeldStore, Same, SameBut, SameLeft, SameLefts, SameLeftsBut}
use Rattle.ps_io.specs.declared.world.World.{Ghosts}
use Rattle.ps_endpoints.proofs.Back.{returned}
use Rattle.ps_serve.specs.Compacting.{ComesOf, Compacts, CompactsOver, LeavesOtherStores, Pair, status_by}
use Rattle.ps_status.specs.Outside.{Outside, SameStreams, held_as, outside}
use Rattle.ps_status.specs.Telling.{reported_from}
use Rattle.ps_status.specs.declared.status.Status.{Status}
use Rattle.ps_status.specs.declared.status.Status.TheVariants.{Done, Usage, OpenFault, StoreDamaged, StoreFault, StoreFull, Occupied, StreamFault, StreamLong, Memory}
use Rattle.ps_status.proofs.Moved.{same-trans}
use Rattle.ps_status.proofs.Moved.{lefts-back, lefts-trans}
use Rattle.ps_status.proofs.Moved.{store-is}

-- ---- what comes of it, told of stores that are the same

module _ (tells : Type 0) (o : CompactOutcome) (left left1 left_new left_new1 : ℕ → List ℕ → Type 0)
    (less : (t : ℕ) (c : List ℕ) → left1 t c → left t c) (less_new : (t : ℕ) (c : List ℕ) → left_new1 t c → left_new t c) where
  comes-less : (a b x y : HeldStore) → ComesOf tells a b x y left left_new o → ComesOf tells a b x y left1 left_new1 o
  comes-less a b x y h = record {
    cause = h.cause;
    still = record {
      kept = h.still.kept;
      left_old = λ told c l. h.still.left_old told c (less a.moment c l);
      left_of_new = λ told short c l. h.still.left_of_new told short c (less_new x.moment c l);
    };
    new_stays = h.new_stays;
  }

  pub comes-moved : (a a1 b b1 x x1 y y1 : HeldStore) → a ≡ a1 → b ≡ b1 → x ≡ x1 → y ≡ y1
      → ComesOf tells a b x y left left_new o → ComesOf tells a1 b1 x1 y1 left1 left_new1 o
  comes-moved a a1 b b1 x x1 y y1 e f g h comes =
      subst (λ (z : HeldStore). ComesOf tells z b1 x1 y1 left1 left_new1 o) e
      (subst (λ (z : HeldStore). ComesOf tells a z x1 y1 left1 left_new1 o) f
      (subst (λ (z : HeldStore). ComesOf tells a b z y1 left1 left_new1 o) g
      (subst (λ (z : HeldStore). ComesOf tells a b x z left1 left_new1 o) h (comes-less a b x y comes))))

-- ---- the new store

module _ {W S K D C : Type 0} (w : Ghosts W S K D C) (g : DiskGhosts D) (name : List ℕ) (old new : W) (disk disk_now other other_now : D)
    (was : IsHeldStore (w.stores old name) (g.faults other) (g.seen other) (g.synced other) (g.written other) (g.moment other) (g.syncs other))
    (is : IsHeldStore (w.stores new name) (g.faults other_now) (g.seen other_now) (g.synced other_now) (g.written other_now) (g.moment other_now) (g.syncs other_now))
    (left_is : SameLeft (g.left_since other_now) (w.lefts new name)) where
  pub over-disk : (o : CompactOutcome) → ComesOf g.tells (held_as g disk) (held_as g disk_now) (held_as g other) (held_as g other_now) (g.left_since disk_now) (g.left_since other_now) o
      → CompactsOver g name (outside w old) (outside w new) (w.lefts old) (w.lefts new) disk disk_now (status_by o)
  over-disk o comes = inr (record {
    outcome = o;
    status = refl;
    comes = comes-moved g.tells o (g.left_since disk_now) (g.left_since disk_now) (g.left_since other_now) (w.lefts new name) (λ t c l. l) (λ t c l. (left_is t c).1 l)
        (held_as g disk) (held_as g disk) (held_as g disk_now) (held_as g disk_now) (held_as g other) (w.stores old name) (held_as g other_now) (w.stores new name)
        refl refl (store-is g other (w.stores old name) was) (store-is g other_now (w.stores new name) is) comes;
  })

-- ---- the store

module _ {W S K D C : Type 0} (w : Ghosts W S K D C) (g : DiskGhosts D) (p : Pair) (apart : p.store ≢ p.new) (old opened mid new : W) (disk disk_now : D)
    (was : IsHeldStore (w.stores old p.store) (g.faults disk) (g.seen disk) (g.synced disk) (g.written disk) (g.moment disk) (g.syncs disk))
    (left_was : SameLeft (w.lefts old p.store) (g.left_since disk))
    (is : IsHeldStore (w.stores new p.store) (g.faults disk_now) (g.seen disk_now) (g.synced disk_now) (g.written disk_now) (g.moment disk_now) (g.syncs disk_now))
    (left_is : SameLeft (g.left_since disk_now) (w.lefts new p.store))
    (before : SameStreams (outside w old) (outside w opened)) (between : SameStreams (outside w opened) (outside w mid)) (after : SameStreams (outside w mid) (outside w new))
    (opens : SameBut p.store (w.stores old) (w.stores opened)) (gives : SameBut p.store (w.stores mid) (w.stores new))
    (opens_left : SameLeftsBut p.store (w.lefts old) (w.lefts opened)) (gives_left : SameLeftsBut p.store (w.lefts mid) (w.lefts new)) where
  same-all : SameStreams (outside w old) (outside w new)
  same-all = same-trans (outside w old) (outside w opened) (outside w new) before (same-trans (outside w opened) (outside w mid) (outside w new) between after)

  other : p.new ≢ p.store
  other e = apart (sym e)

  pub both : (st : Status) → CompactsOver g p.new (outside w opened) (outside w mid) (w.lefts opened) (w.lefts mid) disk disk_now st
      → Compacts g.tells (outside w old) (outside w new) (w.lefts old) (w.lefts new) st p
  both st (inl not) = inl (record {
    same = same-all;
    stores = returned p.store (w.stores old) (w.stores new) (λ n differs. gives n differs ∙ (not.untouched.stores n ∙ opens n differs))
        (sym (store-is g disk_now (w.stores new p.store) is) ∙ (ap (held_as g) not.same_disk ∙ store-is g disk (w.stores old p.store) was));
    lefts_same = lefts-back p.store (w.lefts old) (w.lefts new)
        (λ n differs. lefts-trans (w.lefts old n) (w.lefts opened n) (w.lefts new n) (opens_left n differs)
        (lefts-trans (w.lefts opened n) (w.lefts mid n) (w.lefts new n) (not.untouched.lefts_same n) (gives_left n differs)))
        (lefts-trans (w.lefts old p.store) (g.left_since disk_now) (w.lefts new p.store)
        (subst (λ (d : D). SameLeft (w.lefts old p.store) (g.left_since d)) (sym not.same_disk) left_was) left_is);
    status = not.untouched.status;
  })
  both st (inr ran) = inr (record {
    same = same-all;
    outcome = ran.outcome;
    status = ran.status;
    comes = comes-moved g.tells ran.outcome (g.left_since disk_now) (w.lefts new p.store) (w.lefts mid p.new) (w.lefts new p.new)
        (λ t c l. (left_is t c).1 l) (λ t c l. (gives_left p.new other t c).1 l)
        (held_as g disk) (w.stores old p.store) (held_as g disk_now) (w.stores new p.store) (w.stores opened p.new) (w.stores old p.new) (w.stores mid p.new) (w.stores new p.new)
        (store-is g disk (w.stores old p.store) was) (store-is g disk_now (w.stores new p.store) is) (opens p.new other) (sym (gives p.new other)) ran.comes;
  })

  pub others : SameBut p.new (w.stores opened) (w.stores mid) → SameLeftsBut p.new (w.lefts opened) (w.lefts mid)
      → LeavesOtherStores p (outside w old) (outside w new) (w.lefts old) (w.lefts new)
  others stores lefts = record {
    same = same-all;
    other_stores = λ n one two. gives n one ∙ (stores n two ∙ opens n one);
    other_lefts = λ n one two. lefts-trans (w.lefts old n) (w.lefts opened n) (w.lefts new n) (opens_left n one)
        (lefts-trans (w.lefts opened n) (w.lefts mid n) (w.lefts new n) (lefts n two) (gives_left n one));
  }

-- ---- the report

module _ (old new new1 : Outside) (lefts lefts_now lefts_told : List ℕ → ℕ → List ℕ → Type 0) (after : SameStreams new new1)
    (stores : Same new.stores new1.stores) (same_lefts : SameLefts lefts_now lefts_told) where
  compacts-told : (tells : Type 0) (st : Status) (p : Pair) → Compacts tells old new lefts lefts_now st p → Compacts tells old new1 lefts lefts_told st p
  compacts-told tells st p (inl not) = inl (record {
    same = same-trans old new new1 not.same after;
    stores = λ n. stores n ∙ not.stores n;
    lefts_same = λ n. lefts-trans (lefts n) (lefts_now n) (lefts_told n) (not.lefts_same n) (same_lefts n);
    status = not.status;
  })
  compacts-told tells st p (inr ran) = inr (record {
    same = same-trans old new new1 ran.same after;
    outcome = ran.outcome;
    status = ran.status;
    comes = comes-moved tells ran.outcome (lefts_now p.store) (lefts_told p.store) (lefts_now p.new) (lefts_told p.new)
        (λ t c. (same_lefts p.store t c).1) (λ t c. (same_lefts p.new t c).1)
        (old.stores p.store) (old.stores p.store) (new.stores p.store) (new1.stores p.store) (old.stores p.new) (old.stores p.new) (new.stores p.new) (new1.stores p.new)
        refl (sym (stores p.store)) refl (sym (stores p.new)) ran.comes;
  })

  pub if-compacted : (tells : Type 0) (st : Status) (o : Option Pair) → IfSome o (Compacts tells old new lefts lefts_now st) → IfSome o (Compacts tells old new1 lefts lefts_told st)
  if-compacted tells st None is = is
  if-compacted tells st (Some p) is = compacts-told tells st p is
