-- What openings in a row ask for.
use Rattle.std.proofs.Common.{◌≡◌, ℕ, zero, suc, List, [], ◌∷◌, ◌++◌, ◌∙◌, refl, sym, ap, append_assoc}
use Rattle.std.specs.Prelude.{take}
use Rattle.std.proofs.lemmas.List.{append-nil}
use Rattle.ps_io.specs.World.{AskedAt}
use Rattle.ps_io.specs.declared.world.OpenCall.{OpenCall}
use Rattle.ps_io.specs.declared.world.WorldRefusal.{WorldRefusal}
use Rattle.ps_io.specs.declared.world.WorldRefusal.TheVariants.{Failed, Memory}

take-none : (n : ℕ) → take {A = OpenCall} n [] ≡ []
take-none zero = refl
take-none (suc n) = refl

-- the first of these openings
abbrev pub Front : List OpenCall → List OpenCall → List OpenCall → Type 0
Front openings old new = (n : ℕ) × (new ≡ old ++ take n openings)

pub none-yet : (openings old : List OpenCall) → Front openings old old
none-yet openings old = (0, sym (append-nil old))

-- the next may have been asked for
pub one-more : (old new : List OpenCall) (opening : OpenCall) (rest : List OpenCall) (why : WorldRefusal) → AskedAt why old opening new → Front (opening ∷ rest) old new
one-more old new opening rest Failed asked = (1, asked)
one-more old new opening rest Memory asked = (0, asked ∙ sym (append-nil old))

-- one was, and then the first of the rest
pub after-one : (old one new : List OpenCall) (opening : OpenCall) (rest : List OpenCall) → one ≡ old ++ opening ∷ [] → Front rest one new → Front (opening ∷ rest) old new
after-one old one new opening rest asked more =
    (suc more.0, more.1 ∙ (ap (λ (l : List OpenCall). l ++ take more.0 rest) asked ∙ append_assoc old (opening ∷ []) (take more.0 rest)))

module _ (old one new : List OpenCall) (first second third : OpenCall) (rest : List OpenCall) where
  -- three were, and then the first of the rest
  pub after-three : one ≡ old ++ first ∷ second ∷ third ∷ [] → Front rest one new → Front (first ∷ second ∷ third ∷ rest) old new
  after-three asked more =
      (suc (suc (suc more.0)), more.1 ∙ (ap (λ (l : List OpenCall). l ++ take more.0 rest) asked ∙ append_assoc old (first ∷ second ∷ third ∷ []) (take more.0 rest)))

  -- some of the three were
  pub in-three : Front (first ∷ second ∷ third ∷ []) old new → Front (first ∷ second ∷ third ∷ rest) old new
  in-three some = by-count some.0 some.1
    where
      by-count : (n : ℕ) → new ≡ old ++ take n (first ∷ second ∷ third ∷ []) → Front (first ∷ second ∷ third ∷ rest) old new
      by-count zero asked = (0, asked)
      by-count (suc zero) asked = (1, asked)
      by-count (suc (suc zero)) asked = (2, asked)
      by-count (suc (suc (suc n))) asked = (3, asked ∙ ap (λ (l : List OpenCall). old ++ first ∷ second ∷ third ∷ l) (take-none n))
