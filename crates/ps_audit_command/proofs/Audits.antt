-- A store that was opened in a world, audited, and given back; and then a report.
use Rattle.std.proofs.Common.{◌≡◌, inl, inr, ℕ, List, refl, sym, subst}
use Rattle.std.specs.Prelude.{Result, Ok, Err}
use Rattle.ps_disk.specs.declared.device.Disk.{Ghosts as DiskGhosts}
use Rattle.ps_types.specs.declared.entry.Entry.{Entry}
use Rattle.ps_io.specs.Held.{HeldStore, IsHeldStore, Same, SameLeft, SameLefts}
use Rattle.ps_hall_open.specs.declared.opened.ReadWhy.{ReadWhy}
use Rattle.ps_hall_open.specs.declared.opened.ReadWhy.TheVariants as why
use Rattle.ps_commands.specs.declared.command.ExplainWords.{ExplainWords}
use Rattle.ps_commands.specs.declared.command.ReadersWords.{ReadersWords}
use Rattle.ps_audit_run.specs.Audited.{Audited, held_on}
use Rattle.ps_audit_run.specs.Report.{explain_report, readers_report}
use Rattle.ps_status.specs.Outside.{Outside, SameStreams}
use Rattle.ps_status.specs.declared.status.Status.{Status}
use Rattle.ps_status.specs.declared.status.Status.TheVariants.{OpenFault, Usage}
use Rattle.ps_status.proofs.Moved.{refused-told, store-is}
use Rattle.ps_audit_command.specs.Auditing.{Audits, Explains, Lists, came_by}

module _ (tells : Type 0) (report : List Entry → List (List ℕ)) (o : Result (List (List ℕ)) ReadWhy) (left left1 : ℕ → List ℕ → Type 0)
    (less : (t : ℕ) (c : List ℕ) → left1 t c → left t c) where
  audited-less : (a b : HeldStore) → Audited tells report a b left o → Audited tells report a b left1 o
  audited-less a b h = record {
    told = h.told;
    stands = h.stands;
    refused = h.refused;
    untouched = h.untouched;
    later = h.later;
    left_since = λ told short E is c l. h.left_since told short E is c (less a.moment c l);
  }

  pub audited-moved : (a a1 b b1 : HeldStore) → a ≡ a1 → b ≡ b1 → Audited tells report a b left o → Audited tells report a1 b1 left1 o
  audited-moved a a1 b b1 e f h =
      subst (λ (z : HeldStore). Audited tells report z b1 left1 o) e (subst (λ (z : HeldStore). Audited tells report a z left1 o) f (audited-less a b h))

-- of a disk by what is held under its name
pub audited-held : {D : Type 0} (g : DiskGhosts D) (report : List Entry → List (List ℕ)) (o : Result (List (List ℕ)) ReadWhy) (d e : D) (h k : HeldStore) (left : ℕ → List ℕ → Type 0)
    → IsHeldStore h (g.faults d) (g.seen d) (g.synced d) (g.written d) (g.moment d) (g.syncs d)
    → IsHeldStore k (g.faults e) (g.seen e) (g.synced e) (g.written e) (g.moment e) (g.syncs e)
    → SameLeft (g.left_since e) left → Audited g.tells report (held_on g d) (held_on g e) (g.left_since e) o → Audited g.tells report h k left o
audited-held g report o d e h k left was is same audited =
    audited-moved g.tells report o (g.left_since e) left (λ t c l. (same t c).1 l) (held_on g d) h (held_on g e) k (store-is g d h was) (store-is g e k is) audited

-- its end is none of these
pub never-usage : (o : Result (List (List ℕ)) ReadWhy) → came_by o ≡ Err Usage → ⊥
never-usage (Ok lines) e = absurd (cc e)
never-usage (Err (why.Damaged at)) e = absurd (cc e)
never-usage (Err why.Store) e = absurd (cc e)
never-usage (Err why.Memory) e = absurd (cc e)

pub never-open : (o : Result (List (List ℕ)) ReadWhy) → came_by o ≡ Err OpenFault → ⊥
never-open (Ok lines) e = absurd (cc e)
never-open (Err (why.Damaged at)) e = absurd (cc e)
never-open (Err why.Store) e = absurd (cc e)
never-open (Err why.Memory) e = absurd (cc e)

module _ (old new new1 : Outside) (lefts lefts_now lefts_told : List ℕ → ℕ → List ℕ → Type 0) (after : SameStreams new new1)
    (stores : Same new.stores new1.stores) (same_lefts : SameLefts lefts_now lefts_told) where
  audits-told : (tells : Type 0) (report : List Entry → List (List ℕ)) (name : List ℕ) (came : Result (List (List ℕ)) Status)
      → Audits tells report name old new lefts lefts_now came → Audits tells report name old new1 lefts lefts_told came
  audits-told tells report name came (inl not) = inl (refused-told old new new1 lefts lefts_now lefts_told after stores same_lefts came not)
  audits-told tells report name came (inr ran) = inr (record {
    outcome = ran.outcome;
    is = ran.is;
    audited = audited-moved tells report ran.outcome (lefts_now name) (lefts_told name) (λ t c l. (same_lefts name t c).1 l) (old.stores name) (old.stores name)
        (new.stores name) (new1.stores name) refl (sym (stores name)) ran.audited;
  })

  pub explains-told : (tells : Type 0) (w : ExplainWords) (came : Result (List (List ℕ)) Status) → Explains tells w old new lefts lefts_now came → Explains tells w old new1 lefts lefts_told came
  explains-told tells w came did = audits-told tells (explain_report w.who w.node) w.store came did

  pub lists-told : (tells : Type 0) (w : ReadersWords) (came : Result (List (List ℕ)) Status) → Lists tells w old new lefts lefts_now came → Lists tells w old new1 lefts lefts_told came
  lists-told tells w came did = audits-told tells (readers_report w.node) w.store came did
