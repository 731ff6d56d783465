-- What the real world tells: the counts of faults.
use Rattle.std.specs.Prelude.{◌≡◌, ℕ, [], Some, None}
use Rattle.std.specs.declared.option.Option.{Option}
use Rattle.ps_io.specs.Held.{Held, HeldClock, HeldStore}
use Rattle.ps_io.specs.declared.clock.RealClock.{RealClock}
use Rattle.ps_io.specs.declared.world.Kind.{Kind}
use Rattle.ps_io.specs.declared.world.Kind.TheVariants.{Source, Sink, Store, Clock}

abbrev pub clock_faults : {R : Type 0} → RealClock R → ℕ
clock_faults c = c.faults

-- the count of the object that was last given back, 0 before
abbrev pub count_at : Option (Option ℕ) → ℕ
count_at None = 0
count_at (Some None) = 0
count_at (Some (Some count)) = count

abbrev pub held_count : Option (Option ℕ) → Held
held_count place = record { faults = count_at place; bytes = None }

abbrev pub held_clock : Option (Option ℕ) → HeldClock
held_clock place = record { faults = count_at place; told = None }

abbrev pub held_store : Option (Option ℕ) → HeldStore
held_store place = record { faults = count_at place; seen = []; synced = []; written = []; moment = 0; syncs = 0 }

-- an object is lent, by its kind
abbrev pub IsLent : Kind → Option (Option ℕ) → Option (Option ℕ) → Option (Option ℕ) → Option (Option ℕ) → Type 0
IsLent Source source sink store clock = source ≡ Some None
IsLent Sink source sink store clock = sink ≡ Some None
IsLent Store source sink store clock = store ≡ Some None
IsLent Clock source sink store clock = clock ≡ Some None
