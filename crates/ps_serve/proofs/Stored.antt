-- A store that was opened in a world, served, and given back; and then a report.
use Rattle.std.proofs.Common.{◌≡◌, inl, inr, ℕ, List, Option, Some, None, refl, sym, ◌∙◌, ap, subst}
use Rattle.std.specs.Prelude.{IfSome}
use Rattle.ps_disk.specs.declared.device.Disk.{Ghosts as DiskGhosts}
use Rattle.ps_io.specs.Held.{IsHeldStore, Same, SameBut, SameLeft, SameLefts, SameLeftsBut}
use Rattle.ps_io.specs.declared.world.World.{Ghosts}
use Rattle.ps_endpoints.proofs.Back.{returned}
use Rattle.ps_commands.specs.declared.command.Command.{Command}
use Rattle.ps_audit_command.specs.Auditing.{store_touches}
use Rattle.ps_follow_command.specs.Feeding.{feed_touches}
use Rattle.ps_follow_command.specs.Following.{follow_touches}
use Rattle.ps_mirror_command.specs.Mirroring.{mirror_touches}
use Rattle.ps_commands.specs.declared.command.Command.TheVariants.{Serve, Rehearse, Compact, Explain, Readers, Feed, Follow, Mirror}
use Rattle.ps_status.specs.Outside.{Outside, SameStreams, held_as, outside}
use Rattle.ps_serve.specs.Runs.{Leaves, LeavesAll, RanOver, Runs, Served}
use Rattle.ps_status.specs.declared.status.Status.{Status}
use Rattle.ps_status.proofs.Moved.{is-or-not, same-refl, same-trans}
use Rattle.ps_serve.proofs.Moved.{ran-moved, same-moved}
use Rattle.ps_status.proofs.Moved.{store-is}
use Rattle.ps_status.proofs.Moved.{but-told, lefts-back, lefts-trans, untouched-told}

-- ---- the store

module _ {W S K D C : Type 0} (w : Ghosts W S K D C) (g : DiskGhosts D) (s : Served) (old opened mid new : W) (disk disk_now : D)
    (was : IsHeldStore (w.stores old s.store) (g.faults disk) (g.seen disk) (g.synced disk) (g.written disk) (g.moment disk) (g.syncs disk))
    (left_was : SameLeft (w.lefts old s.store) (g.left_since disk))
    (is : IsHeldStore (w.stores new s.store) (g.faults disk_now) (g.seen disk_now) (g.synced disk_now) (g.written disk_now) (g.moment disk_now) (g.syncs disk_now))
    (left_is : SameLeft (g.left_since disk_now) (w.lefts new s.store))
    (before : SameStreams (outside w old) (outside w opened)) (after : SameStreams (outside w mid) (outside w new))
    (stores : SameBut s.store (w.stores old) (w.stores new)) (lefts : SameLeftsBut s.store (w.lefts old) (w.lefts new)) where
  store-back : disk_now ≡ disk → w.stores new s.store ≡ w.stores old s.store
  store-back same = sym (store-is g disk_now (w.stores new s.store) is) ∙ (ap (held_as g) same ∙ store-is g disk (w.stores old s.store) was)

  left-back : disk_now ≡ disk → SameLeft (w.lefts old s.store) (w.lefts new s.store)
  left-back same =
      lefts-trans (w.lefts old s.store) (g.left_since disk_now) (w.lefts new s.store)
      (subst (λ (d : D). SameLeft (w.lefts old s.store) (g.left_since d)) (sym same) left_was) left_is

  pub runs : (st : Status) → RanOver g s.service s.streams (outside w opened) (outside w mid) disk disk_now st
      → Runs g.tells (outside w old) (outside w new) (w.lefts old) (w.lefts new) st s
  runs st (inl not) = inl (record {
    same = same-moved (outside w old) (outside w opened) (outside w mid) (outside w new) before after not.same;
    stores = returned s.store (w.stores old) (w.stores new) stores (store-back not.same_disk);
    lefts_same = lefts-back s.store (w.lefts old) (w.lefts new) lefts (left-back not.same_disk);
    status = not.status;
  })
  runs st (inr ran) =
      inr (ran-moved (outside w old) (outside w opened) (outside w mid) (outside w new) before after g.tells s.service s.streams
      (held_as g disk) (w.stores old s.store) (held_as g disk_now) (w.stores new s.store) (store-is g disk (w.stores old s.store) was)
      (store-is g disk_now (w.stores new s.store) is) (g.left_since disk_now) (w.lefts new s.store) (λ t c. (left_is t c).1) st ran)

-- ---- the report

module _ (old new new1 : Outside) (lefts lefts_now lefts_told : List ℕ → ℕ → List ℕ → Type 0) (after : SameStreams new new1)
    (stores : Same new.stores new1.stores) (same_lefts : SameLefts lefts_now lefts_told) where
  runs-told : (tells : Type 0) (st : Status) (s : Served) → Runs tells old new lefts lefts_now st s → Runs tells old new1 lefts lefts_told st s
  runs-told tells st s (inl not) = inl (untouched-told old new new1 lefts lefts_now lefts_told after stores same_lefts st not)
  runs-told tells st s (inr ran) =
      inr (ran-moved old old new new1 (same-refl old) after tells s.service s.streams (old.stores s.store) (old.stores s.store) (new.stores s.store) (new1.stores s.store)
      refl (sym (stores s.store)) (lefts_now s.store) (lefts_told s.store) (λ t c. (same_lefts s.store t c).1) st ran)

  pub if-told : (tells : Type 0) (st : Status) (o : Option Served) → IfSome o (Runs tells old new lefts lefts_now st) → IfSome o (Runs tells old new1 lefts lefts_told st)
  if-told tells st None is = is
  if-told tells st (Some s) is = runs-told tells st s is

  all-told : LeavesAll old new lefts lefts_now → LeavesAll old new1 lefts lefts_told
  all-told all = record {
    same = same-trans old new new1 all.same after;
    all_stores = λ n. stores n ∙ all.all_stores n;
    all_lefts = λ n. lefts-trans (lefts n) (lefts_now n) (lefts_told n) (all.all_lefts n) (same_lefts n);
  }

  pub leaves-told : (o : Option Command) → Leaves o old new lefts lefts_now → Leaves o old new1 lefts lefts_told
  leaves-told None all = all-told all
  leaves-told (Some (Serve service store streams)) others = record {
    other_sources = λ n other. after.same_sources n ∙ others.other_sources n other;
    other_sinks = λ n other. after.same_sinks n ∙ others.other_sinks n other;
    other_clocks = λ n other. after.same_clocks n ∙ others.other_clocks n other;
    other_stores = λ n other. stores n ∙ others.other_stores n other;
    other_lefts = λ n other. lefts-trans (lefts n) (lefts_now n) (lefts_told n) (others.other_lefts n other) (same_lefts n);
  }
  leaves-told (Some (Rehearse seed count)) all = all-told all
  leaves-told (Some (Compact store new_store)) others = record {
    same = same-trans old new new1 others.same after;
    other_stores = λ n one two. stores n ∙ others.other_stores n one two;
    other_lefts = λ n one two. lefts-trans (lefts n) (lefts_now n) (lefts_told n) (others.other_lefts n one two) (same_lefts n);
  }
  leaves-told (Some (Explain words)) others = but-told old new new1 lefts lefts_now lefts_told after stores same_lefts (store_touches words.store) others
  leaves-told (Some (Readers words)) others = but-told old new new1 lefts lefts_now lefts_told after stores same_lefts (store_touches words.store) others
  leaves-told (Some (Feed words)) others = but-told old new new1 lefts lefts_now lefts_told after stores same_lefts (feed_touches words) others
  leaves-told (Some (Follow words)) others = but-told old new new1 lefts lefts_now lefts_told after stores same_lefts (follow_touches words) others
  leaves-told (Some (Mirror words)) others = but-told old new new1 lefts lefts_now lefts_told after stores same_lefts (mirror_touches words) others
