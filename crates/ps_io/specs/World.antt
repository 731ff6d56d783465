-- What the calls of a world change of what it tells.
use Rattle.std.specs.Prelude.{ℕ, ◌≡◌, ◌≢◌, ◌⊎◌, ◌≤◌, List, [], ◌∷◌, ◌++◌, MatchResult, Result}
use Rattle.std.specs.declared.option.Option.{Option}
use Rattle.std.specs.Io.KnownBytes.{Appends}
use Rattle.ps_base.specs.Causes.{Rose}
use Rattle.ps_io.specs.declared.world.Kind.{Kind}
use Rattle.ps_io.specs.declared.world.OpenCall.{OpenCall}
use Rattle.ps_io.specs.declared.world.WorldRefusal.{WorldRefusal}
use Rattle.ps_io.specs.declared.world.WorldRefusal.TheVariants.{Failed, Memory}

abbrev pub AskedAt : WorldRefusal → List OpenCall → OpenCall → List OpenCall → Type 0
AskedAt Failed old opening new = new ≡ old ++ opening ∷ []
AskedAt Memory old opening new = new ≡ old

-- an opening is asked for, unless memory ran out
abbrev pub Asks : {T : Type 0} → Result T WorldRefusal → List OpenCall → OpenCall → List OpenCall → Type 0
Asks result old opening new = MatchResult result (λ _. new ≡ old ++ opening ∷ []) (λ e. AskedAt e old opening new)

abbrev pub FailedRose : WorldRefusal → ℕ → ℕ → Type 0
FailedRose Failed before now = Rose before now
FailedRose Memory before now = Unit {0}

-- the count doesn't fall, and the opening failed only where it rose
pub record OpeningHasCause {T : Type 0} (before now : ℕ) (result : Result T WorldRefusal) : Type 0 where
  pub later : before ≤ now
  pub failed : MatchResult result (λ _. Unit {0}) (λ e. FailedRose e before now)

abbrev pub LastOpeningAt : WorldRefusal → ℕ → ℕ → ℕ × ℕ → ℕ × ℕ → Type 0
LastOpeningAt Failed before now old new = new ≡ (before, now)
LastOpeningAt Memory before now old new = new ≡ old

-- the counts before and after an opening are kept, unless memory ran out
abbrev pub LastOpening : {T : Type 0} → Result T WorldRefusal → ℕ → ℕ → ℕ × ℕ → ℕ × ℕ → Type 0
LastOpening result before now old new = MatchResult result (λ _. new ≡ (before, now)) (λ e. LastOpeningAt e before now old new)

-- a front of the bytes is added
pub record ReportsFront (old new : Option (List ℕ)) (bytes : List ℕ) : Type 0 where
  pub front : List ℕ
  pub behind : List ℕ
  pub split : bytes ≡ front ++ behind
  pub adds : Appends old new front

-- a report adds its bytes, and one that fails a front of them
abbrev pub Reports : {E : Type 0} → Option (List ℕ) → Option (List ℕ) → Result (Unit {0}) E → List ℕ → Type 0
Reports old new result bytes = MatchResult result (λ _. Appends old new bytes) (λ _. ReportsFront old new bytes)

-- each object that is open stays so
abbrev pub Stay : (Kind → List ℕ → Type 0) → (Kind → List ℕ → Type 0) → Type 0
Stay old new = (k : Kind) (n : List ℕ) → old k n → new k n

-- each other object that is open stays so
abbrev pub StayBut : Kind → List ℕ → (Kind → List ℕ → Type 0) → (Kind → List ℕ → Type 0) → Type 0
StayBut kind name old new = (k : Kind) (n : List ℕ) → (k ≢ kind) ⊎ (n ≢ name) → old k n → new k n
