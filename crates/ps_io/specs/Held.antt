-- What a world holds under a name while no one has it open.
use Rattle.std.specs.Prelude.{ℕ, ◌≡◌, ◌≢◌, ◌↔◌, List}
use Rattle.std.specs.declared.option.Option.{Option}

-- a source or a sink: the count of its faults, and its bytes where it tells them
pub record Held : Type 0 where
  pub faults : ℕ
  pub bytes : Option (List ℕ)

-- a clock: the count of its faults, and its answers where it tells them
pub record HeldClock : Type 0 where
  pub faults : ℕ
  pub told : Option (List (Option ℕ))

-- a store: the count of its faults, and what its disk tells
pub record HeldStore : Type 0 where
  pub faults : ℕ
  pub seen : List ℕ
  pub synced : List ℕ
  pub written : List (ℕ × ℕ)
  pub moment : ℕ
  pub syncs : ℕ

-- an object has just this count and these bytes
pub record IsHeld (held : Held) (faults : ℕ) (bytes : Option (List ℕ)) : Type 0 where
  pub same_faults : faults ≡ held.faults
  pub same_bytes : bytes ≡ held.bytes

pub record IsHeldClock (held : HeldClock) (faults : ℕ) (told : Option (List (Option ℕ))) : Type 0 where
  pub same_faults : faults ≡ held.faults
  pub same_told : told ≡ held.told

pub record IsHeldStore (held : HeldStore) (faults : ℕ) (seen synced : List ℕ) (written : List (ℕ × ℕ)) (moment syncs : ℕ) : Type 0 where
  pub same_faults : faults ≡ held.faults
  pub same_seen : seen ≡ held.seen
  pub same_synced : synced ≡ held.synced
  pub same_written : written ≡ held.written
  pub same_moment : moment ≡ held.moment
  pub same_syncs : syncs ≡ held.syncs

-- each name has what it had
abbrev pub Same : {H : Type 0} → (List ℕ → H) → (List ℕ → H) → Type 0
Same old new = (n : List ℕ) → new n ≡ old n

-- each other name has what it had
abbrev pub SameBut : {H : Type 0} → List ℕ → (List ℕ → H) → (List ℕ → H) → Type 0
SameBut name old new = (n : List ℕ) → n ≢ name → new n ≡ old n

-- what a crash may have left, of one disk
abbrev pub SameLeft : (ℕ → List ℕ → Type 0) → (ℕ → List ℕ → Type 0) → Type 0
SameLeft old new = (t : ℕ) (c : List ℕ) → (old t c → new t c) × (new t c → old t c)

-- and of the disk under each name
abbrev pub SameLefts : (List ℕ → ℕ → List ℕ → Type 0) → (List ℕ → ℕ → List ℕ → Type 0) → Type 0
SameLefts old new = (n : List ℕ) → SameLeft (old n) (new n)

abbrev pub SameLeftsBut : List ℕ → (List ℕ → ℕ → List ℕ → Type 0) → (List ℕ → ℕ → List ℕ → Type 0) → Type 0
SameLeftsBut name old new = (n : List ℕ) → n ≢ name → SameLeft (old n) (new n)
