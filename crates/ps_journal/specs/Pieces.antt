-- What is read of a store in pieces.
use Rattle.std.specs.Prelude.{◌≡◌, ℕ, zero, suc, ◌+◌, ◌-◌, ◌≤◌, ◌<◌, ◌^◌, min, Bool, List, [], ◌∷◌, ◌++◌, length, take, drop, Option, Some, None}
use Rattle.std.specs.Int.{w32}
use Rattle.ps_disk.specs.Disk.{LeavesOnly, MayLeave}
use Rattle.ps_model.specs.Entries.{AreEntries}
use Rattle.ps_model.specs.Damage.{BadFrame}
use Rattle.ps_model.specs.Store.{AreBodies}
use Rattle.ps_record.specs.Raw.{number_at}
use Rattle.ps_journal.specs.Judged.{Stride, shut, bad, whole, stride_at, Judged}
use Rattle.ps_journal.specs.Opened.{ArePlaced}
use Rattle.ps_journal.specs.Places.{entries_in}
use Rattle.ps_journal.specs.declared.judging.Placed.{Placed}
use Rattle.ps_journal.specs.declared.pieces.Piece.{Piece}
use Rattle.ps_journal.specs.declared.reading.Halt.{Halt}
use Rattle.ps_journal.specs.declared.reading.Halt.TheVariants as halts
use Rattle.ps_journal.specs.declared.judging.Judgement.{Judgement}
use Rattle.ps_journal.specs.declared.judging.Judgement.TheVariants as judgements

-- the first bytes of a store, which tell its header, and whether it is unbegun
abbrev pub front_of : List ℕ → List ℕ
front_of seen = take 10 seen

-- these bytes stand at the offset, and others may follow
pub record StandAt (seen : List ℕ) (at : ℕ) (bytes : List ℕ) : Type 0 where
  pub more : List ℕ
  pub split : drop at seen ≡ bytes ++ more

-- the piece has the bytes at the offset, and ends within the store
pub record IsHeld (tells : Type 0) (seen : List ℕ) (total at : ℕ) (p : Piece) : Type 0 where
  pub from : p.from ≤ at
  pub within : at ≤ p.from + length p.bytes.items
  pub ends : p.from + length p.bytes.items ≤ total
  pub stands : tells → StandAt seen p.from p.bytes.items

-- so many bytes from the offset on, or all up to the end
abbrev pub Reaches : ℕ → ℕ → ℕ → Piece → Type 0
Reaches total at count p = min count (total - at) ≤ (p.from + length p.bytes.items) - at

-- what it has from the offset on
abbrev pub behind_in : Piece → ℕ → List ℕ
behind_in p at = drop (at - p.from) p.bytes.items

-- how many bytes tell what stands at a gate: a frame, its length, and the byte behind it
abbrev pub extent_of : Option (ℕ × List ℕ) → ℕ
extent_of None = 5
extent_of (Some n) = n.0 + 6

abbrev pub extent_at : List ℕ → ℕ
extent_at [] = 5
extent_at (zero ∷ tail) = 1
extent_at (suc zero ∷ tail) = extent_of (number_at w32 tail)
extent_at (suc (suc gate) ∷ tail) = 1

-- the same, with more bytes behind
abbrev pub onward : List ℕ → Stride → Stride
onward more shut = shut
onward more bad = bad
onward more (whole body after) = whole body (after ++ more)

-- at the offset there stands what these bytes have at their front
pub record StrideStands (seen : List ℕ) (at : ℕ) (bytes : List ℕ) : Type 0 where
  pub more : List ℕ
  pub split : drop at seen ≡ bytes ++ more
  pub same : stride_at (drop at seen) ≡ onward more (stride_at bytes)

-- Nothing but reads: what is seen stays, and a crash at any moment leaves what it might have left before.
pub record OnlyReads {D : Type 0} (tells : Type 0) (seen synced : D → List ℕ) (written : D → List (ℕ × ℕ)) (moment : D → ℕ) (left_since : D → ℕ → List ℕ → Type 0) (faults : D → ℕ) (old new : D) : Type 0 where
  pub same_seen : seen new ≡ seen old
  pub same_synced : synced new ≡ synced old
  pub same_written : written new ≡ written old
  pub time : tells → LeavesOnly moment left_since old new (MayLeave (synced old) (written old))
  pub later : faults old ≤ faults new

-- what was found, whether or not the disk tells its content
abbrev pub IsSound : (List Placed → Type 0) → Judgement → Type 0
IsSound taken judgements.Unbegun = taken []
IsSound taken (judgements.Begun found gate) = ArePlaced found.items × taken found.items × (gate + 1 < 2 ^ 64)
IsSound taken (judgements.Bad at) = Unit {0}
IsSound taken (judgements.Stopped at before) = AreEntries (entries_in before.items)
IsSound taken judgements.Memory = Unit {0}

-- where a store was begun
abbrev pub IfBegun : Type 0 → Judgement → Type 0
IfBegun P judgements.Unbegun = Unit {0}
IfBegun P (judgements.Begun found gate) = P
IfBegun P (judgements.Bad at) = Unit {0}
IfBegun P (judgements.Stopped at before) = Unit {0}
IfBegun P judgements.Memory = Unit {0}

-- the frames behind which the entries are found, or up to an entry that isn't spelled, or is refused
pub record AreSound (refused : List Placed → Placed → Type 0) (second : Bool) (found : List Placed) (stop : Option ℕ) : Type 0 where
  pub bodies : List (List ℕ)
  pub each : AreBodies bodies
  pub judged : Judged refused second bodies found stop

abbrev pub IsHaltAt : List ℕ → Halt → Type 0
IsHaltAt bytes (halts.Frame at) = BadFrame bytes at
IsHaltAt bytes (halts.Load why) = Unit {0}
