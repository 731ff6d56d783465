-- What a clock that stands still has told after one call more.
use Rattle.std.proofs.Common.{◌≡◌, ℕ, zero, suc, ◌+◌, ◌-◌, ◌^◌, ◌≤◌, Bool, true, false, List, [], ◌∷◌, ◌++◌, length, refl, ap, arith, length-append}
use Rattle.std.specs.Prelude.{min, nat_lt, Option, Some, if◌then◌else◌}
use Rattle.std.proofs.lemmas.Bool.Decides.{nat_tests}
use Rattle.ps_io.specs.Clock.{noted}
use Rattle.ps_rehearse.specs.Still.{zeros}

pub zeros-length : (n : ℕ) → length (zeros n) ≡ n
unfolding zeros
zeros-length zero = refl
zeros-length (suc n) = omega (arith, length-append (zeros n) (Some 0 ∷ []), zeros-length n)

zeros-at : (n next : ℕ) (b : Bool) → nat_lt (length (zeros n)) (2 ^ 64 - 1) ≡ b → next ≡ min (n + 1) (2 ^ 64 - 1) → n ≤ 2 ^ 64 - 1
    → zeros next ≡ (if b then zeros n ++ Some 0 ∷ [] else zeros n)
unfolding zeros
zeros-at n next true is rises within =
    let l = zeros-length n in
    let e : next ≡ suc n = grind (arith, nat_tests) in
    rw e refl
zeros-at n next false is rises within =
    let l = zeros-length n in
    let e : next ≡ n = grind (arith, nat_tests) in
    ap zeros e

pub zeros-next : (n next : ℕ) → next ≡ min (n + 1) (2 ^ 64 - 1) → n ≤ 2 ^ 64 - 1 → zeros next ≡ noted (zeros n) (Some 0)
zeros-next n next rises within = zeros-at n next (nat_lt (length (zeros n)) (2 ^ 64 - 1)) refl rises within
