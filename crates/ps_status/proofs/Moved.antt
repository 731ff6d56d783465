-- What is told of a world holds of one that tells the same.
use Rattle.std.proofs.Common.{◌≡◌, ◌≢◌, ◌⊎◌, inl, inr, ℕ, Bool, true, false, List, Option, refl, sym, ◌∙◌, subst}
use Rattle.std.specs.Str.{bytes_eq}
use Rattle.std.proofs.lemmas.Slice.Eq.{bytes_eq-Decides}
use Rattle.ps_disk.specs.declared.device.Disk.{Ghosts as DiskGhosts}
use Rattle.ps_io.specs.Held.{Held, HeldStore, IsHeld, IsHeldStore, Same, SameLeft, SameLefts, SameLeftsBut}
use Rattle.ps_status.specs.Leaving.{LeavesBut, Touched}
use Rattle.std.specs.Prelude.{Result}
use Rattle.ps_status.specs.Outside.{Outside, SameStreams, Untouched, WasRefused, held_as}
use Rattle.ps_status.specs.declared.status.Status.{Status}
use Rattle.ps_status.specs.declared.status.Status.TheVariants.{Memory}

-- a name is this one, or another
pub is-or-not : (n name : List ℕ) → (n ≡ name) ⊎ (n ≢ name)
is-or-not n name = tested (bytes_eq n name) refl
  where
    tested : (b : Bool) → bytes_eq n name ≡ b → (n ≡ name) ⊎ (n ≢ name)
    tested true is = inl ((bytes_eq-Decides n name).0 is)
    tested false is = inr (λ e. let yes : bytes_eq n name ≡ true = (bytes_eq-Decides n name).1 e in cc)

pub same-refl : (o : Outside) → SameStreams o o
same-refl o = record { same_sources = λ n. refl; same_sinks = λ n. refl; same_clocks = λ n. refl }

pub same-trans : (a b c : Outside) → SameStreams a b → SameStreams b c → SameStreams a c
same-trans a b c p q = record {
  same_sources = λ n. q.same_sources n ∙ p.same_sources n;
  same_sinks = λ n. q.same_sinks n ∙ p.same_sinks n;
  same_clocks = λ n. q.same_clocks n ∙ p.same_clocks n;
}

-- ---- what a crash may have left

pub lefts-back : (name : List ℕ) (old new : List ℕ → ℕ → List ℕ → Type 0) → SameLeftsBut name old new → SameLeft (old name) (new name) → SameLefts old new
lefts-back name old new others back n =
    elim (is-or-not n name) [
      | inl same ↦ subst (λ (m : List ℕ). SameLeft (old m) (new m)) (sym same) back
      | inr differs ↦ others n differs
    ]

pub lefts-refl : (a : ℕ → List ℕ → Type 0) → SameLeft a a
lefts-refl a t x = (λ was. was, λ is. is)

pub lefts-trans : (a b c : ℕ → List ℕ → Type 0) → SameLeft a b → SameLeft b c → SameLeft a c
lefts-trans a b c p q t x = (λ was. (q t x).0 ((p t x).0 was), λ is. (p t x).1 ((q t x).1 is))

-- ---- what is held is what the object tells

pub held-is : (h : Held) (faults : ℕ) (bytes : Option (List ℕ)) → IsHeld h faults bytes → record { faults = faults; bytes = bytes } ≡ h
held-is h faults bytes is = λ i. record { faults = is.same_faults i; bytes = is.same_bytes i }

pub store-is : {D : Type 0} (g : DiskGhosts D) (d : D) (h : HeldStore)
    → IsHeldStore h (g.faults d) (g.seen d) (g.synced d) (g.written d) (g.moment d) (g.syncs d) → held_as g d ≡ h
store-is g d h is = λ i. record {
  faults = is.same_faults i;
  seen = is.same_seen i;
  synced = is.same_synced i;
  written = is.same_written i;
  moment = is.same_moment i;
  syncs = is.same_syncs i;
}

-- ---- nothing was done

pub untouched-none : (o : Outside) (lefts : List ℕ → ℕ → List ℕ → Type 0) → Untouched o o lefts lefts Memory
untouched-none o lefts = record { same = same-refl o; stores = λ n. refl; lefts_same = λ n. lefts-refl (lefts n); status = inr refl }

pub but-none : (t : Touched) (o : Outside) (lefts : List ℕ → ℕ → List ℕ → Type 0) → LeavesBut t o o lefts lefts
but-none t o lefts = record {
  other_sources = λ n other. refl;
  other_sinks = λ n other. refl;
  other_stores = λ n other. refl;
  other_lefts = λ n other. lefts-refl (lefts n);
  all_clocks = λ n. refl;
}

-- ---- then a report

module _ (old new new1 : Outside) (lefts lefts_now lefts_told : List ℕ → ℕ → List ℕ → Type 0) (after : SameStreams new new1)
    (stores : Same new.stores new1.stores) (same_lefts : SameLefts lefts_now lefts_told) where
  pub untouched-told : (st : Status) → Untouched old new lefts lefts_now st → Untouched old new1 lefts lefts_told st
  untouched-told st not = record {
    same = same-trans old new new1 not.same after;
    stores = λ n. stores n ∙ not.stores n;
    lefts_same = λ n. lefts-trans (lefts n) (lefts_now n) (lefts_told n) (not.lefts_same n) (same_lefts n);
    status = not.status;
  }

  pub but-told : (t : Touched) → LeavesBut t old new lefts lefts_now → LeavesBut t old new1 lefts lefts_told
  but-told t others = record {
    other_sources = λ n other. after.same_sources n ∙ others.other_sources n other;
    other_sinks = λ n other. after.same_sinks n ∙ others.other_sinks n other;
    other_stores = λ n other. stores n ∙ others.other_stores n other;
    other_lefts = λ n other. lefts-trans (lefts n) (lefts_now n) (lefts_told n) (others.other_lefts n other) (same_lefts n);
    all_clocks = λ n. after.same_clocks n ∙ others.all_clocks n;
  }

  pub refused-told : {T : Type 0} (came : Result T Status) → WasRefused old new lefts lefts_now came → WasRefused old new1 lefts lefts_told came
  refused-told came was = (was.0, was.1, untouched-told was.0 was.2)
