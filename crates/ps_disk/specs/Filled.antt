-- Byte by byte, what a crash leaves of the writes since the last sync.
use Rattle.std.specs.Prelude.{ℕ, ◌≡◌, ◌⊎◌, ◌<◌, ◌≤◌, max, List, [], ◌∷◌, length, slice_index}
use Rattle.ps_disk.specs.Disk.{IsWritten, furthest}
use Rattle.ps_disk.specs.Calls.{State, start_of, step, after_calls}
use Rattle.ps_disk.specs.declared.replay.Call.{Call}
use Rattle.ps_disk.specs.declared.replay.Call.TheVariants.{Wrote, Failed, Synced}
use Rattle.ps_disk.specs.declared.replay.Kept.{Kept}
use Rattle.ps_disk.specs.declared.replay.Torn.{Torn}
use Rattle.ps_disk.specs.declared.replay.Torn.TheVariants.{Lost, Whole, Filled}

-- These bytes go as far as the furthest write. In each written range they are this byte; elsewhere they are what stood at the last sync.
pub record IsFilledWith (byte : ℕ) (s : State) (c : List ℕ) : Type 0 where
  pub size : length c ≡ max (length s.synced) (furthest s.written)
  pub each : (k : ℕ) → k < length c
      → (IsWritten s.written k × (slice_index c k ≡ byte)) ⊎ ((IsWritten s.written k → ⊥) × (k < length s.synced) × (slice_index c k ≡ slice_index s.synced k))

-- what a crash leaves of each kind: what stood at the last sync, what a read gives, or one byte in all that was written since
abbrev pub IsTornBy : Torn → State → List ℕ → Type 0
IsTornBy Lost s c = c ≡ s.synced
IsTornBy Whole s c = c ≡ s.seen
IsTornBy (Filled byte) s c = IsFilledWith byte s c

-- a write begins at the end of what is seen, or before it
abbrev pub BeginsWithin : State → Call → Type 0
BeginsWithin s (Wrote at bytes) = at ≤ length s.seen
BeginsWithin s (Failed at count) = at ≤ length s.seen
BeginsWithin s Synced = Unit {0}

abbrev pub EachBegins : State → List Kept → Type 0
EachBegins s [] = Unit {0}
EachBegins s (one ∷ others) = BeginsWithin s one.call × EachBegins (step s one.call) others

-- the numbers of the calls don't fall
abbrev pub Rises : ℕ → List Kept → ℕ → Type 0
Rises low [] high = low ≤ high
Rises low (one ∷ others) high = (low ≤ one.number) × Rises one.number others high

-- what a disk in memory keeps: the bytes that its calls have made, and calls in their order that each begin within what is seen
pub record CallsAreKept (start bytes : List ℕ) (kept : List Kept) (calls : ℕ) : Type 0 where
  pub seen : bytes ≡ (after_calls (start_of start) kept).seen
  pub each : EachBegins (start_of start) kept
  pub rises : Rises 0 kept calls
