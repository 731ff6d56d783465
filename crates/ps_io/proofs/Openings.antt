-- What stands under a name where an opening finds nothing, and what a store there may leave.
use Rattle.std.proofs.Common.{◌≡◌, ◌≤◌, ℕ, List, [], refl, sym, subst, inl, inr}
use Rattle.std.proofs.Math.Nat.{le_refl}
use Rattle.std.specs.Prelude.{◌⊎◌, Some, None, Err}
use Rattle.ps_base.specs.Causes.{next_count, Rose}
use Rattle.ps_io.specs.World.{OpeningHasCause, FailedRose}
use Rattle.ps_io.specs.declared.world.WorldRefusal.{WorldRefusal}
use Rattle.ps_io.specs.declared.world.WorldRefusal.TheVariants.{Failed}
use Rattle.std.specs.declared.option.Option.{Option}
use Rattle.ps_disk.specs.Calls.{Recorded}
use Rattle.ps_io.specs.Held.{SameLeft}
use Rattle.ps_io.specs.MemClock.{ClockView}
use Rattle.ps_io.specs.MemWorld.{IsBad, IsBadClock, held_left, placed}
use Rattle.ps_io.specs.declared.mem_world.MemWorld.{MemWorld}

pub not_there : {T : Type 0} (w : MemWorld) (p : Option (Option T)) → (p ≡ None) ⊎ (p ≡ Some None) → IsBad w p
not_there w None h = tt
not_there w (Some None) h = tt
not_there w (Some (Some x)) (inl e) = absurd (cc)
not_there w (Some (Some x)) (inr e) = absurd (cc)

pub clock_not_there : (w : MemWorld) (p q : Option (Option ClockView)) → q ≡ placed p → (q ≡ None) ⊎ (q ≡ Some None) → IsBadClock w p
clock_not_there w None q is (inl e) = absurd (cc)
clock_not_there w None q is (inr e) = absurd (cc)
clock_not_there w (Some None) q is h = tt
clock_not_there w (Some (Some x)) q is (inl e) = absurd (cc)
clock_not_there w (Some (Some x)) q is (inr e) = absurd (cc)

-- one place leaves the same
pub same_left : (p q : Option (Option Recorded)) → q ≡ p → SameLeft (held_left p) (held_left q)
same_left p q e = subst (λ (r : Option (Option Recorded)). SameLeft (held_left r) (held_left q)) e (λ t c. (λ h. h, λ h. h))

-- an object that isn't there is a fault of the world
pub failing_cause : {T : Type 0} (before mid now : ℕ) (e : WorldRefusal) → mid ≡ before → mid ≤ now → now ≡ next_count mid → e ≡ Failed → OpeningHasCause {T = T} before now (Err e)
failing_cause before mid now e same later counted is =
    let b : before ≤ now = subst (λ (n : ℕ). n ≤ now) same later in
    let r : Rose before now = subst (λ (n : ℕ). next_count n ≤ now) same (subst (λ (n : ℕ). next_count mid ≤ n) (sym counted) (le_refl (next_count mid))) in
    record { later = b; failed = subst (λ (f : WorldRefusal). FailedRose f before now) (sym is) r }
