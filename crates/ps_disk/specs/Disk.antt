-- What the calls of a disk do, and what a crash may leave.
use Rattle.std.specs.Prelude.{ℕ, ◌≡◌, ◌⊎◌, ◌+◌, ◌<◌, ◌≤◌, max, List, [], ◌∷◌, ◌++◌, length, take, drop, slice_index}

-- new is old with these bytes at this offset
abbrev pub Holds : List ℕ → ℕ → List ℕ → List ℕ → Type 0
Holds old at bytes new = new ≡ take at old ++ bytes ++ drop (at + length bytes) old

-- new is old with any bytes in the range
pub record TornAt (at n : ℕ) (old new : List ℕ) : Type 0 where
  pub before : take at new ≡ take at old
  pub after : drop (at + n) new ≡ drop (at + n) old
  pub no_shorter : length old ≤ length new
  pub no_longer : length new ≤ max (length old) (at + n)

-- an offset lies in one of the ranges, which are pairs of an offset and a length
abbrev pub IsWritten : List (ℕ × ℕ) → ℕ → Type 0
IsWritten [] k = ⊥
IsWritten (range ∷ ranges) k = ((range.0 ≤ k) × (k < range.0 + range.1)) ⊎ IsWritten ranges k

-- how far the ranges go
abbrev pub furthest : List (ℕ × ℕ) → ℕ
furthest [] = 0
furthest (range ∷ ranges) = max (range.0 + range.1) (furthest ranges)

-- A crash may leave these bytes: others only in the written ranges and past the old end, and a length between the old end and the furthest write.
pub record MayLeave (synced : List ℕ) (written : List (ℕ × ℕ)) (c : List ℕ) : Type 0 where
  pub no_shorter : length synced ≤ length c
  pub no_longer : length c ≤ max (length synced) (furthest written)
  pub elsewhere : (k : ℕ) → k < length synced → (IsWritten written k → ⊥) → slice_index c k ≡ slice_index synced k

-- Time goes on: a crash since t might have left what it might have left before, or what it may leave now.
pub record Elapses (before now : ℕ) (past since : ℕ → List ℕ → Type 0) (may_leave : List ℕ → Type 0) : Type 0 where
  pub later : before ≤ now
  pub nothing_else : (t : ℕ) (c : List ℕ) → t ≤ before → since t c → past t c ⊎ may_leave c
  pub keeps : (t : ℕ) (c : List ℕ) → t ≤ before → past t c → since t c

-- Time goes on from one state of a disk to another.
abbrev pub GoesOn : {D : Type 0} → (D → ℕ) → (D → ℕ → List ℕ → Type 0) → (D → List ℕ) → (D → List (ℕ × ℕ)) → D → D → Type 0
GoesOn moment left_since synced written old new =
    Elapses (moment old) (moment new) (left_since old) (left_since new) (MayLeave (synced new) (written new))

-- the written ranges are as before, or one more
abbrev pub MayHaveOneMore : ℕ × ℕ → List (ℕ × ℕ) → List (ℕ × ℕ) → Type 0
MayHaveOneMore range old new = (new ≡ old) ⊎ (new ≡ range ∷ old)

-- what stood at the last sync stays, and so do the ranges written since
abbrev pub StaysPending : {D : Type 0} → (D → List ℕ) → (D → List (ℕ × ℕ)) → D → D → Type 0
StaysPending synced written old new = (synced new ≡ synced old) × (written new ≡ written old)

-- A crash at any moment since old leaves bytes that have P.
pub record LeavesOnly {D : Type 0} (moment : D → ℕ) (left_since : D → ℕ → List ℕ → Type 0) (old new : D) (P : List ℕ → Type 0) : Type 0 where
  pub later : moment old ≤ moment new
  pub each : (c : List ℕ) → left_since new (moment old) c → P c
  -- for a run that began earlier
  pub before : (t : ℕ) (c : List ℕ) → t ≤ moment old → left_since new t c → left_since old t c ⊎ P c
