-- What a clock in memory has told after one call more.
use Rattle.std.proofs.Common.{◌≡◌, ℕ, zero, suc, ◌+◌, ◌-◌, ◌^◌, ◌<◌, ◌≤◌, Bool, true, false, List, [], ◌∷◌, ◌++◌, length, refl, sym, ◌∙◌, ap, arith, add-one, length-append}
use Rattle.std.specs.Prelude.{min, nat_lt, slice_get, if◌then◌else◌}
use Rattle.std.specs.declared.option.Option.{Option}
use Rattle.std.proofs.lemmas.Bool.Decides.{nat_tests}
use Rattle.ps_io.specs.Clock.{noted}
use Rattle.ps_io.specs.MemClock.{told_by}

told_length : (answers : List ℕ) (calls : ℕ) → length (told_by answers calls) ≡ calls
told_length answers zero = refl
told_length answers (suc calls) = omega (arith, length-append (told_by answers calls) (slice_get answers calls ∷ []), told_length answers calls)

told_at : (answers : List ℕ) (calls next : ℕ) (one : Option ℕ) (b : Bool) → nat_lt (length (told_by answers calls)) (2 ^ 64 - 1) ≡ b → slice_get answers calls ≡ one
    → next ≡ min (calls + 1) (2 ^ 64 - 1) → calls ≤ 2 ^ 64 - 1 → told_by answers next ≡ (if b then told_by answers calls ++ one ∷ [] else told_by answers calls)
told_at answers calls next one true is got rises within =
    let n = told_length answers calls in
    let e : next ≡ suc calls = grind (arith, nat_tests) in
    rw e (ap (λ o. told_by answers calls ++ o ∷ []) got)
told_at answers calls next one false is got rises within =
    let n = told_length answers calls in
    let e : next ≡ calls = grind (arith, nat_tests) in
    ap (told_by answers) e

-- one call more adds its answer
pub told_next : (answers : List ℕ) (calls next : ℕ) (one : Option ℕ) → slice_get answers calls ≡ one → next ≡ min (calls + 1) (2 ^ 64 - 1) → calls ≤ 2 ^ 64 - 1
    → told_by answers next ≡ noted (told_by answers calls) one
told_next answers calls next one got rises within = told_at answers calls next one (nat_lt (length (told_by answers calls)) (2 ^ 64 - 1)) refl got rises within
