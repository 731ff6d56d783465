-- The first of the causes of all workers is that of some worker.
use Rattle.std.proofs.Common.{◌≡◌, ◌⊎◌, ⊎_elim, inl, inr, ℕ, zero, suc, Bool, true, false, List, [], ◌∷◌, Some, None, refl, ap, subst, arith}
use Rattle.std.specs.Prelude.{nat_lt, slice_get, if◌then◌else◌}
use Rattle.std.proofs.lemmas.Bool.Decides.{nat_tests}
use Rattle.ps_workers.specs.EndCause.{EndCause}
use Rattle.ps_workers.specs.EndCause.TheVariants as writer
use Rattle.ps_workers.specs.ReadEnd.{ReadEnd}
use Rattle.ps_workers.specs.ReadEnd.TheVariants as reader
use Rattle.ps_workers.specs.Headline.{Worked}
use Rattle.ps_serve.specs.Ends.{IsServing, closed_status, rank, stream_status, worst, worst_in, worst_of, write_status}
use Rattle.ps_status.specs.declared.status.Status.{Status}
use Rattle.ps_status.specs.declared.status.Status.TheVariants.{Done, Usage, OpenFault, FeedBad, StoreDamaged, StoreFault, StoreFull, Occupied, Memory, StreamFault, StreamLong}

-- ---- of two

-- what both have the worst has
picked : (P : Status → Type 0) (x y : Status) (b : Bool) → P x → P y → P (if b then y else x)
picked P x y true p q = q
picked P x y false p q = p

of-both : (P : Status → Type 0) (x y : Status) → P x → P y → P (worst x y)
of-both P x y p q = picked P x y (nat_lt (rank x) (rank y)) p q

-- the worst is the one or the other
either : (x y s : Status) → worst x y ≡ s → (x ≡ s) ⊎ (y ≡ s)
either x y s = of-both (λ z. z ≡ s → (x ≡ s) ⊎ (y ≡ s)) x y (λ e. inl e) (λ e. inr e)

-- ---- of a stream

-- which worker's cause a status is
module _ (s : Status) (IsRead : ReadEnd → Type 0) (IsWrote : EndCause → Type 0) where
  record Causes : Type 0 where
    write : (w : EndCause) → write_status w ≡ s → IsWrote w
    closed : (w : EndCause) → closed_status w ≡ s → IsWrote w
    fault : StreamFault ≡ s → ⊥
    long : StreamLong ≡ s → ⊥
    memory : Memory ≡ s → ⊥
    store : StoreFault ≡ s → IsRead reader.Store
    full : StoreFull ≡ s → IsRead reader.Full

  abbrev Met : ReadEnd → EndCause → Type 0
  Met r w = IsRead r ⊎ IsWrote w

  met-worst : (c : Causes) (r : ReadEnd) (w : EndCause) (x : Status) → (x ≡ s → IsRead r) → worst x (write_status w) ≡ s → Met r w
  met-worst c r w x by e = ⊎_elim (λ f. inl (by f)) (λ f. inr (c.write w f)) (either x (write_status w) s e)

  met : (c : Causes) (r : ReadEnd) (w : EndCause) → stream_status r w ≡ s → Met r w
  met c reader.Ended w e = inr (c.write w e)
  met c reader.ReadFault w e = met-worst c reader.ReadFault w StreamFault (λ f. absurd (c.fault f)) e
  met c reader.Long w e = met-worst c reader.Long w StreamLong (λ f. absurd (c.long f)) e
  met c reader.Closed w e = inr (c.closed w e)
  met c reader.Store w e = met-worst c reader.Store w StoreFault c.store e
  met c reader.Full w e = met-worst c reader.Full w StoreFull c.full e
  met c reader.Memory w e = met-worst c reader.Memory w Memory (λ f. absurd (c.memory f)) e

write-store : (w : EndCause) → write_status w ≡ StoreFault → w ≡ writer.Store
write-store writer.Store e = refl
write-store writer.Finished e = absurd (cc e)
write-store writer.WriteFault e = absurd (cc e)
write-store writer.Full e = absurd (cc e)
write-store writer.Memory e = absurd (cc e)

closed-store : (w : EndCause) → closed_status w ≡ StoreFault → w ≡ writer.Store
closed-store writer.Store e = refl
closed-store writer.Finished e = absurd (cc e)
closed-store writer.WriteFault e = absurd (cc e)
closed-store writer.Full e = absurd (cc e)
closed-store writer.Memory e = absurd (cc e)

write-full : (w : EndCause) → write_status w ≡ StoreFull → w ≡ writer.Full
write-full writer.Full e = refl
write-full writer.Finished e = absurd (cc e)
write-full writer.WriteFault e = absurd (cc e)
write-full writer.Store e = absurd (cc e)
write-full writer.Memory e = absurd (cc e)

closed-full : (w : EndCause) → closed_status w ≡ StoreFull → w ≡ writer.Full
closed-full writer.Full e = refl
closed-full writer.Finished e = absurd (cc e)
closed-full writer.WriteFault e = absurd (cc e)
closed-full writer.Store e = absurd (cc e)
closed-full writer.Memory e = absurd (cc e)

-- a fault of the disk is one that a worker met
pub met-store : (r : ReadEnd) (w : EndCause) → stream_status r w ≡ StoreFault → (r ≡ reader.Store) ⊎ (w ≡ writer.Store)
met-store = met StoreFault (λ r. r ≡ reader.Store) (λ w. w ≡ writer.Store)
    (record {
      write = write-store;
      closed = closed-store;
      fault = λ e. cc e;
      long = λ e. cc e;
      memory = λ e. cc e;
      store = λ e. refl;
      full = λ e. absurd (cc e);
    })

-- and for want of room some worker ended
pub met-full : (r : ReadEnd) (w : EndCause) → stream_status r w ≡ StoreFull → (r ≡ reader.Full) ⊎ (w ≡ writer.Full)
met-full = met StoreFull (λ r. r ≡ reader.Full) (λ w. w ≡ writer.Full)
    (record {
      write = write-full;
      closed = closed-full;
      fault = λ e. cc e;
      long = λ e. cc e;
      memory = λ e. cc e;
      store = λ e. absurd (cc e);
      full = λ e. refl;
    })

-- ---- of all streams

-- one of them has it
pub record IsOf (ts : List Worked) (s : Status) : Type 0 where
  pub at : ℕ
  pub stream : Worked
  pub here : slice_get ts at ≡ Some stream
  pub is : stream_status stream.read stream.wrote ≡ s

later : (t : Worked) (ts : List Worked) (s : Status) → IsOf ts s → IsOf (t ∷ ts) s
later t ts s o = record { at = suc o.at; stream = o.stream; here = o.here; is = o.is }

pub some-stream : (ts : List Worked) (s : Status) → (Done ≡ s → ⊥) → worst_of ts ≡ s → IsOf ts s
some-stream [] s not e = absurd (not e)
some-stream (t ∷ ts) s not e =
    ⊎_elim (λ f. record { at = 0; stream = t; here = refl; is = f }) (λ f. later t ts s (some-stream ts s not f)) (either (stream_status t.read t.wrote) (worst_of ts) s e)

-- where all was done, each worker came to its end
rank-zero : (s : Status) → rank s ≡ 0 → s ≡ Done
rank-zero Done e = refl
rank-zero StreamLong e = absurd (omega (arith, e))
rank-zero StreamFault e = absurd (omega (arith, e))
rank-zero Memory e = absurd (omega (arith, e))
rank-zero StoreFull e = absurd (omega (arith, e))
rank-zero StoreFault e = absurd (omega (arith, e))
rank-zero (StoreDamaged at) e = absurd (omega (arith, e))
rank-zero (FeedBad at) e = absurd (omega (arith, e))
rank-zero OpenFault e = absurd (omega (arith, e))
rank-zero Usage e = absurd (omega (arith, e))
rank-zero Occupied e = absurd (omega (arith, e))

none-below : (m n : ℕ) → nat_lt m n ≡ true → n ≡ 0 → ⊥
none-below m n less e = grind (arith, nat_tests, less, e)

none-above : (m n : ℕ) → nat_lt m n ≡ false → m ≡ 0 → n ≡ 0
none-above m n less e = grind (arith, nat_tests, less, e)

picked-done : (x y : Status) (b : Bool) → nat_lt (rank x) (rank y) ≡ b → (if b then y else x) ≡ Done → (x ≡ Done) × (y ≡ Done)
picked-done x y true less e = absurd (none-below (rank x) (rank y) less (ap rank e))
picked-done x y false less e = (e, rank-zero y (none-above (rank x) (rank y) less (ap rank e)))

both-done : (x y : Status) → worst x y ≡ Done → (x ≡ Done) × (y ≡ Done)
both-done x y e = picked-done x y (nat_lt (rank x) (rank y)) refl e

write-done : (w : EndCause) → write_status w ≡ Done → w ≡ writer.Finished
write-done writer.Finished e = refl
write-done writer.WriteFault e = absurd (cc e)
write-done writer.Store e = absurd (cc e)
write-done writer.Full e = absurd (cc e)
write-done writer.Memory e = absurd (cc e)

closed-never-done : (w : EndCause) → closed_status w ≡ Done → ⊥
closed-never-done writer.Finished e = cc e
closed-never-done writer.WriteFault e = cc e
closed-never-done writer.Store e = cc e
closed-never-done writer.Full e = cc e
closed-never-done writer.Memory e = cc e

stream-done : (r : ReadEnd) (w : EndCause) → stream_status r w ≡ Done → (r ≡ reader.Ended) × (w ≡ writer.Finished)
stream-done reader.Ended w e = (refl, write-done w e)
stream-done reader.ReadFault w e = absurd (cc ((both-done StreamFault (write_status w) e).0))
stream-done reader.Long w e = absurd (cc ((both-done StreamLong (write_status w) e).0))
stream-done reader.Closed w e = absurd (closed-never-done w e)
stream-done reader.Store w e = absurd (cc ((both-done StoreFault (write_status w) e).0))
stream-done reader.Full w e = absurd (cc ((both-done StoreFull (write_status w) e).0))
stream-done reader.Memory w e = absurd (cc ((both-done Memory (write_status w) e).0))

pub each-done : (ts : List Worked) → worst_of ts ≡ Done → (i : ℕ) (t : Worked) → slice_get ts i ≡ Some t → (t.read ≡ reader.Ended) × (t.wrote ≡ writer.Finished)
each-done [] e zero t here = absurd (let no : None ≡ Some t = here in cc no)
each-done [] e (suc i) t here = absurd (let no : None ≡ Some t = here in cc no)
each-done (x ∷ ts) e zero t here =
    let same : x ≡ t = (let is : Some x ≡ Some t = here in cc is) in
    let first = stream-done x.read x.wrote (both-done (stream_status x.read x.wrote) (worst_of ts) e).0 in
    subst (λ (u : Worked). (u.read ≡ reader.Ended) × (u.wrote ≡ writer.Finished)) same first
each-done (x ∷ ts) e (suc i) t here = each-done ts (both-done (stream_status x.read x.wrote) (worst_of ts) e).1 i t here

-- each is a status of a run that served
write-serving : (w : EndCause) → IsServing (write_status w)
write-serving writer.Finished = tt
write-serving writer.WriteFault = tt
write-serving writer.Store = tt
write-serving writer.Full = tt
write-serving writer.Memory = tt

closed-serving : (w : EndCause) → IsServing (closed_status w)
closed-serving writer.Finished = tt
closed-serving writer.WriteFault = tt
closed-serving writer.Store = tt
closed-serving writer.Full = tt
closed-serving writer.Memory = tt

stream-serving : (r : ReadEnd) (w : EndCause) → IsServing (stream_status r w)
stream-serving reader.Ended w = write-serving w
stream-serving reader.ReadFault w = of-both IsServing StreamFault (write_status w) tt (write-serving w)
stream-serving reader.Long w = of-both IsServing StreamLong (write_status w) tt (write-serving w)
stream-serving reader.Closed w = closed-serving w
stream-serving reader.Store w = of-both IsServing StoreFault (write_status w) tt (write-serving w)
stream-serving reader.Full w = of-both IsServing StoreFull (write_status w) tt (write-serving w)
stream-serving reader.Memory w = of-both IsServing Memory (write_status w) tt (write-serving w)

pub serving : {E : Type 0} (read : E → ReadEnd) (wrote : E → EndCause) (es : List E) → IsServing (worst_in read wrote es)
serving read wrote [] = tt
serving read wrote (e ∷ es) = of-both IsServing (stream_status (read e) (wrote e)) (worst_in read wrote es) (stream-serving (read e) (wrote e)) (serving read wrote es)
