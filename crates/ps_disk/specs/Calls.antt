-- A disk in memory: its calls, and what it is after each of them.
use Rattle.std.specs.Prelude.{ℕ, ◌≡◌, ◌+◌, ◌≤◌, nat_le, List, [], ◌∷◌, ◌++◌, length, take, drop, filter, replicate}
use Rattle.ps_base.specs.Causes.{next_count}
use Rattle.ps_disk.specs.Disk.{MayLeave, GoesOn, StaysPending}
use Rattle.ps_disk.specs.declared.replay.Call.{Call}
use Rattle.ps_disk.specs.declared.replay.Call.TheVariants.{Wrote, Failed, Synced}
use Rattle.ps_disk.specs.declared.replay.Kept.{Kept}
use Rattle.ps_disk.specs.declared.replay.Torn.{Torn}
use Rattle.ps_disk.specs.declared.replay.Torn.TheVariants.{Lost, Whole, Filled}

-- what contracts see of a disk in memory
pub record Recorded : Type 0 where
  -- the bytes at first
  pub start : List ℕ
  -- the calls that changed something, each with its number
  pub kept : List Kept
  -- the numbers of the calls that fail
  pub failing : List ℕ
  -- how many calls there were; it stands still at its type's end
  pub calls : ℕ
  -- how many of them failed
  pub faults : ℕ
  -- how often one of them gave up because memory ran out
  pub refused : ℕ

-- a disk with these bytes, nothing pending and no faults
abbrev pub new_disk : List ℕ → List ℕ → Recorded
new_disk bytes failing = record { start = bytes; kept = []; failing = failing; calls = 0; faults = 0; refused = 0 }

-- what a read gives, what stood at the last sync, and the ranges written since, the newest first
pub record State : Type 0 where
  pub seen : List ℕ
  pub synced : List ℕ
  pub written : List (ℕ × ℕ)

abbrev pub start_of : List ℕ → State
start_of bytes = record { seen = bytes; synced = bytes; written = [] }

-- the bytes with others over them, or behind them
abbrev pub over : List ℕ → ℕ → List ℕ → List ℕ
over old at bytes = take at old ++ bytes ++ drop (at + length bytes) old

-- one call; a write that failed has written nothing, and its range counts
abbrev pub step : State → Call → State
step s (Wrote at bytes) = record { seen = over s.seen at bytes; synced = s.synced; written = (at, length bytes) ∷ s.written }
step s (Failed at count) = record { seen = s.seen; synced = s.synced; written = (at, count) ∷ s.written }
step s Synced = record { seen = s.seen; synced = s.seen; written = [] }

abbrev pub after_calls : State → List Kept → State
after_calls s [] = s
after_calls s (one ∷ others) = after_calls (step s one.call) others

-- what the disk is now
abbrev pub state_of : Recorded → State
state_of d = after_calls (start_of d.start) d.kept

abbrev pub sync_count : Call → ℕ
sync_count (Wrote at bytes) = 0
sync_count (Failed at count) = 0
sync_count Synced = 1

-- how many of the calls are syncs
abbrev pub syncs_in : List Kept → ℕ
syncs_in [] = 0
syncs_in (one ∷ others) = syncs_in others + sync_count one.call

-- what the disk was after its first n calls
abbrev pub state_after : ℕ → Recorded → State
state_after n d = after_calls (start_of d.start) (filter (λ one. nat_le one.number n) d.kept)

-- what a crash after some number of kept calls from t on may leave
abbrev pub LeftSince : Recorded → ℕ → List ℕ → Type 0
LeftSince d t c =
    (k : ℕ) × (t ≤ k) × (k ≤ length d.kept)
    × MayLeave (after_calls (start_of d.start) (take k d.kept)).synced (after_calls (start_of d.start) (take k d.kept)).written c

-- a crash in that state may leave these bytes
abbrev pub MayBeLeft : State → List ℕ → Type 0
MayBeLeft s c = MayLeave s.synced s.written c

-- time goes on from one state of the disk to another
abbrev pub TimeGoesOn : Recorded → Recorded → Type 0
TimeGoesOn old new = GoesOn (λ d. length d.kept) LeftSince (λ d. (state_of d).synced) (λ d. (state_of d).written) old new

-- what is seen stands at the last sync, and nothing is written since
abbrev pub IsSynced : State → State → Type 0
IsSynced old new = (new.synced ≡ old.seen) × (new.written ≡ [])

-- what stood at the last sync stays, and so do the ranges written since
abbrev pub IsPending : State → State → Type 0
IsPending old new = StaysPending (λ s. s.synced) (λ s. s.written) old new

-- the calls that are kept, with one more
abbrev pub kept_with : List Kept → ℕ → Call → List Kept
kept_with kept number call = kept ++ record { number = number; call = call } ∷ []

-- a call that failed is counted
abbrev pub with_failed_call : Recorded → Recorded
with_failed_call d = record d { calls = next_count d.calls; faults = next_count d.faults }

-- that a call gave up because memory ran out is counted
abbrev pub with_refusal : Recorded → Recorded
with_refusal d = record d { faults = next_count d.faults; refused = next_count d.refused }

-- the bytes, with this one in each of the ranges, the newest last
abbrev pub filled : ℕ → List (ℕ × ℕ) → List ℕ → List ℕ
filled byte [] bytes = bytes
filled byte (range ∷ ranges) bytes = over (filled byte ranges bytes) range.0 (replicate range.1 byte)

-- the outcome of a crash in which each write since the last sync is lost, or is there whole, or has a byte in its whole range
abbrev pub outcome : Torn → State → List ℕ
outcome Lost s = s.synced
outcome Whole s = s.seen
outcome (Filled byte) s = filled byte s.written s.synced
