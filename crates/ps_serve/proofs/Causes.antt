-- How a run ended, by what is served of its streams and by the store at the end.
use Rattle.std.proofs.Common.{◌≡◌, ◌≢◌, inl, inr, ⊎_elim, ℕ, Bool, true, false, List, Option, Some, None, length, refl, sym, ◌∙◌, ap, subst, arith}
use Rattle.std.specs.Prelude.{is_some, slice_get}
use Rattle.std.proofs.lemmas.Bool.{false≢true}
use Rattle.std.proofs.lemmas.Option.{slice_get_within}
use Rattle.ps_disk.specs.declared.device.Disk.{Ghosts as DiskGhosts}
use Rattle.ps_workers.specs.Origin.{Origin}
use Rattle.ps_workers.specs.EndCause.TheVariants.{Finished}
use Rattle.ps_workers.specs.Limits.{Limits}
use Rattle.ps_workers.specs.State.{State}
use Rattle.ps_hall_store.specs.Stand.{broken_in}
use Rattle.ps_hall_store.specs.declared.store.Store.{Store}
use Rattle.ps_workers.specs.ReadEnd.TheVariants.{Closed, Ended}
use Rattle.ps_workers.specs.Headline.{HasReasons, NoneBroke, Serves, Worked}
use Rattle.ps_serve.specs.Ends.{IsServing, worst_of}
use Rattle.ps_serve.specs.Headline.{the_limits}
use Rattle.ps_serve.specs.Room.{LacksRoom}
use Rattle.ps_status.specs.declared.status.Status.{Status}
use Rattle.ps_status.specs.declared.status.Status.TheVariants.{Done, StoreFault, StoreFull}
use Rattle.ps_serve.proofs.Ranks.{IsOf, each-done, met-full, met-store, some-stream}
use Rattle.ps_trace.proofs.Completing.{get-there}

-- by either form of an option
cases : {X : Type 0} (P : Type 0) (o : Option X) → (o ≡ None → P) → (is_some o ≡ true → P) → P
cases P None none some = none refl
cases P (Some x) none some = some refl

module _ {D : Type 0} {g : DiskGhosts D} (o : Origin) (v : State) (y : Store D g) (worked : List Worked) (serves : Serves o v y worked) where
  -- each stream has a host, and its reasons
  host-of : (i : ℕ) (t : Worked) → slice_get worked i ≡ Some t → (h : List ℕ) × (slice_get o.hosts i ≡ Some h) × HasReasons o v y serves.world.entries h t
  host-of i t here =
      let low = slice_get_within worked i t here in
      let size = serves.size in
      let h = get-there o.hosts i (omega (arith, low, size)) in
      (h.0, h.1, serves.reasons i h.0 t h.1 here)

  pub not-finished : (i : ℕ) (t : Worked) → slice_get worked i ≡ Some t → t.read ≡ Closed → t.wrote ≢ Finished
  not-finished i t here = (host-of i t here).2.closed

  -- where the store is whole no worker met a fault of it
  pub none-broke : broken_in y ≡ None → NoneBroke worked
  none-broke none i t here =
      let r = (host-of i t here).2 in (
        λ e. false≢true (sym (ap is_some none) ∙ r.read_store e),
        λ e. false≢true (sym (ap is_some none) ∙ r.write_store e),
      )

  -- and so the state tells of none
  pub calm : broken_in y ≡ None → v.broken ≡ false
  calm none = by v.broken refl
    where
      by : (b : Bool) → v.broken ≡ b → v.broken ≡ false
      by false e = e
      by true e = absurd (false≢true (sym (ap is_some none) ∙ serves.broken e))

  broke-by : IsOf worked StoreFault → is_some (broken_in y) ≡ true
  broke-by m =
      let r = (host-of m.at m.stream m.here).2 in
      ⊎_elim r.read_store r.write_store (met-store m.stream.read m.stream.wrote m.is)

  room-by : o.limits ≡ the_limits → IsOf worked StoreFull → LacksRoom o.hosts serves.world.entries v.length
  room-by limits m =
      let host = host-of m.at m.stream m.here in
      let r = host.2 in
      let whole = ap (λ (l : Limits). l.whole) limits in
      ⊎_elim
      (λ e. inl (record { host = host.0; here = (m.at, host.1); over = (let over = r.read_full e in omega (arith, whole, over)) }))
      (λ e. (
      let f = r.write_full e in
      let over = f.over in
      inr (record { to = f.to; here = (m.at, host.1 ∙ ap (λ (x : List ℕ). Some x) (sym f.here)); bare = f.bare; unhanded = f.unhanded; over = omega (arith, whole, over) })))
      (met-full m.stream.read m.stream.wrote m.is)

  -- ---- the status

  module _ (st : Status) (broken : is_some (broken_in y) ≡ true → st ≡ StoreFault) (streams : broken_in y ≡ None → st ≡ worst_of worked) where
    -- it tells of a fault of the disk just where the store is broken
    pub fault-is : st ≡ StoreFault → is_some (broken_in y) ≡ true
    fault-is e =
        cases (is_some (broken_in y) ≡ true) (broken_in y)
        (λ none. broke-by (some-stream worked StoreFault (λ f. cc f) (sym (streams none) ∙ e)))
        (λ some. some)

    pub whole-is : st ≢ StoreFault → broken_in y ≡ None
    whole-is not = cases (broken_in y ≡ None) (broken_in y) (λ none. none) (λ some. absurd (not (broken some)))

    pub first-cause : st ≢ StoreFault → worst_of worked ≡ st
    first-cause not = sym (streams (whole-is not))

    pub full-is : o.limits ≡ the_limits → st ≡ StoreFull → LacksRoom o.hosts serves.world.entries v.length
    full-is limits e = room-by limits (some-stream worked StoreFull (λ f. cc f) (first-cause (λ f. absurd (cc (e, f))) ∙ e))

    pub all-finished : st ≡ Done → (i : ℕ) (t : Worked) → slice_get worked i ≡ Some t → (t.read ≡ Ended) × (t.wrote ≡ Finished)
    all-finished e i t here = each-done worked (first-cause (λ f. absurd (cc (e, f))) ∙ e) i t here

    pub is-serving : IsServing (worst_of worked) → IsServing st
    is-serving is =
        cases (IsServing st) (broken_in y)
        (λ none. subst IsServing (sym (streams none)) is)
        (λ some. subst IsServing (sym (broken some)) tt)
