-- What is held under a name after its object was given back.
use Rattle.std.proofs.Common.{◌≡◌, ◌≢◌, ℕ, Bool, true, false, List, Option, refl, sym, ◌∙◌, subst}
use Rattle.std.proofs.lemmas.Slice.Eq.{bytes_eq-Decides}
use Rattle.std.specs.Str.{bytes_eq}
use Rattle.ps_io.specs.Held.{Held, HeldClock, IsHeld, IsHeldClock, Same, SameBut}

-- the name has what it had, and so has each other name
pub returned : {H : Type 0} (name : List ℕ) (old new : List ℕ → H) → SameBut name old new → new name ≡ old name → Same old new
returned {H} name old new others back n = tested (bytes_eq n name) refl
  where
    tested : (b : Bool) → bytes_eq n name ≡ b → new n ≡ old n
    tested true is = subst (λ (m : List ℕ). new m ≡ old m) (sym ((bytes_eq-Decides n name).0 is)) back
    tested false is =
        let differ : n ≢ name = λ e. let yes : bytes_eq n name ≡ true = (bytes_eq-Decides n name).1 e in cc in
        others n differ

-- an object tells what is held in one way
pub held-same : (old new : Held) (faults : ℕ) (bytes : Option (List ℕ)) → IsHeld old faults bytes → IsHeld new faults bytes → new ≡ old
held-same old new faults bytes was is = λ i. record {
  faults = (sym is.same_faults ∙ was.same_faults) i;
  bytes = (sym is.same_bytes ∙ was.same_bytes) i;
}

pub clock-same : (old new : HeldClock) (faults : ℕ) (told : Option (List (Option ℕ))) → IsHeldClock old faults told → IsHeldClock new faults told → new ≡ old
clock-same old new faults told was is = λ i. record {
  faults = (sym is.same_faults ∙ was.same_faults) i;
  told = (sym is.same_told ∙ was.same_told) i;
}
