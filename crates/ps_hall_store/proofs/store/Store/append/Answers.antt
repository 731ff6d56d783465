use Rattle.std.proofs.Common.{◌≡◌, ap, arith, refl}
use Rattle.std.specs.Prelude.{Err}
use Rattle.ps_journal.specs.declared.journal.AppendRefusal.{AppendRefusal}
use Rattle.ps_journal.specs.declared.journal.AppendRefusal.TheVariants.{Full, Store}
use Rattle.ps_hall_store.proofs.Storing.{passed_ok, room_ok, rose_or, torn_ok, whole_before, written_ok}
use Rattle.ps_hall_store.proofs.store.Store.append.Goals as goal

store_is : (e : AppendRefusal) → (e ≡ Full → ⊥) → e ≡ Store
store_is Full not = absurd (not refl)
store_is Store not = refl

pub returns-in-None-clause-ok : goal.returns-in-None-clause-ok
returns-in-None-clause-ok g c = λ at w v is.
    passed_ok at c.args.self.now _ c.args.frame.now w v is c.in-None.is refl refl refl refl refl

pub returns-in-Ok-clause-ok : goal.returns-in-Ok-clause-ok
returns-in-Ok-clause-ok g c = λ at w v is.
    let e = c.in-Ok.ensures in
    written_ok g.met.D.Disk.seen_left g.met.D.Disk.counts_now at c.args.self.now _ c.args.frame.now c.in-Some.batch c.in-Some.is w v is
    e.any_moment e.front e.later e.grows e.floor e.length.0 e.length.1 e.entries e.durable refl refl refl refl

pub returns-in-Err-clause-err : goal.returns-in-Err-clause-err
returns-in-Err-clause-err g c = λ at w v is.
    let e = c.in-Err.ensures in
    let none = (whole_before at c.args.self.now c.args.frame.now w v is).unbroken in
    let room = room_ok at c.args.self.now c.args.frame.now c.in-Some.batch w v is c.in-Some.is in
    let failed : c.in-Err.field-0 ≡ Store = store_is c.in-Err.field-0 (λ x. let f = (e.full.0 (ap (λ r. Err r) x)).1 in omega (arith, room, f)) in
    let rose = rose_or _ _ (e.store (ap (λ r. Err r) failed)) none in (
      rose,
      torn_ok g.met.D.Disk.seen_left g.met.D.Disk.counts_now at c.args.self.now _ c.args.frame.now c.in-Some.batch c.in-Some.is w v is
          e.any_moment e.front e.later e.grows e.floor _ (e.first_fault none (ap (λ r. Err r) failed)) rose e.torn refl refl refl,
    )
