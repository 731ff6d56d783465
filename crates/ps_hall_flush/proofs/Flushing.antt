-- What comes of a flush, in the words of the pass.
use Rattle.std.proofs.Common.{◌≡◌, ◌≤◌, false, inl, inr, ⊎_elim, ℕ, List, refl, ap, sym, ◌∙◌, subst, length, length-append, arith}
use Rattle.std.specs.Prelude.{OnErr, OnOk, Result, Ok, Err}
use Rattle.ps_model.specs.declared.steps.Step.TheVariants.{Flush, Broken}
use Rattle.ps_trace.specs.Own.{AreOwned}
use Rattle.ps_trace.specs.declared.deed.Deed.{Deed}
use Rattle.ps_hall_flush.specs.Doing.{Adds, Passes}
use Rattle.ps_hall_flush.specs.Flush.{Flushes, FlushesAll, NotFlushed, TellsFault}
use Rattle.ps_hall_flush.specs.Homes.{world_at}
use Rattle.ps_hall_flush.specs.Origin.{Origin}
use Rattle.ps_hall_flush.proofs.Framing.{adds_as}

pub fault_owned : (o : Origin) (k : ℕ) (found new : List Deed) → AreOwned o.hosts found → TellsFault o k found new → AreOwned o.hosts new
fault_owned o k found new owned how = ⊎_elim (λ h. subst (AreOwned o.hosts) (sym h.0) owned) (λ h. h.owned) how

all_owned : (o : Origin) (k m : ℕ) (found new : List Deed) → AreOwned o.hosts found → FlushesAll o k m found new → AreOwned o.hosts new
all_owned o k m found new owned how = ⊎_elim (λ h. subst (AreOwned o.hosts) (sym h.0) owned) (λ h. h.owned) how

pub flushed_owned : {T E : Type 0} (o : Origin) (k : ℕ) (old new : List Deed) (result : Result T E) → OnOk result (Flushes o k old new) → OnErr result (NotFlushed o k old new) → AreOwned o.hosts new
flushed_owned o k old new (Ok t) ok err = all_owned o k (length old) ok.found new ok.passed.owned ok.flush
flushed_owned o k old new (Err e) ok err = fault_owned o k err.found new err.passed.owned err.fault

-- the frame was begun by the seat, and written or not
pub flushes_by : (o : Origin) (k k1 : ℕ) (old found new : List Deed) → k1 ≡ k → Passes o k old found → (world_at o found).broken ≡ false → Adds o k1 found new (Flush (length found))
    → Flushes o k old new
flushes_by o k k1 old found new same passed quiet added = record
    { found = found; passed = passed; quiet = quiet; flush = inr (adds_as o k1 k found found new (Flush (length found)) (Flush (length found)) same refl refl added) }

-- others had flushed what it had seen
pub spared_by : (o : Origin) (k : ℕ) (old found new : List Deed) → Passes o k old found → (world_at o found).broken ≡ false → new ≡ found → length old ≤ (world_at o found).flushed
    → Flushes o k old new
spared_by o k old found new passed quiet same low = record { found = found; passed = passed; quiet = quiet; flush = inl (same, low) }

pub fails_by : (o : Origin) (k k1 : ℕ) (old found new : List Deed) → k1 ≡ k → Passes o k old found → Adds o k1 found new Broken → NotFlushed o k old new
fails_by o k k1 old found new same passed added = record { found = found; passed = passed; fault = inr (adds_as o k1 k found found new Broken Broken same refl refl added) }

-- the same by the answer of the write
pub flush_ok : {T E : Type 0} (o : Origin) (k k1 : ℕ) (old found new : List Deed) (result : Result T E) → k1 ≡ k → Passes o k old found → (world_at o found).broken ≡ false
    → OnOk result (Adds o k1 found new (Flush (length found))) → OnOk result (Flushes o k old new)
flush_ok o k k1 old found new (Ok t) same passed quiet added = flushes_by o k k1 old found new same passed quiet added
flush_ok o k k1 old found new (Err e) same passed quiet added = tt

pub flush_err : {T E : Type 0} (o : Origin) (k k1 : ℕ) (old found new : List Deed) (result : Result T E) → k1 ≡ k → Passes o k old found → OnErr result (Adds o k1 found new Broken)
    → OnErr result (NotFlushed o k old new)
flush_err o k k1 old found new (Ok t) same passed added = tt
flush_err o k k1 old found new (Err e) same passed added = fails_by o k k1 old found new same passed added

pub known_ok : {T E : Type 0} (o : Origin) (k known : ℕ) (old found : List Deed) (result : Result T E) → Passes o k old found → OnOk result (length found ≤ known) → OnOk result (length old ≤ known)
known_ok o k known old found (Ok t) passed low = let l = ap length passed.is ∙ length-append old passed.between in omega (arith, l, low)
known_ok o k known old found (Err e) passed low = tt
