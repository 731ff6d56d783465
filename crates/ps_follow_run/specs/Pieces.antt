-- A feed that is taken a piece at a time.
use Rattle.std.specs.Prelude.{◌≡◌, ◌≢◌, ◌⊎◌, ℕ, ◌<◌, ◌≤◌, ◌^◌, [], ◌++◌, IsTrue, List, Option, Result, Ok, Err, length}
use Rattle.std.specs.Io.KnownBytes.{Consumes}
use Rattle.ps_types.specs.declared.entry.Entry.{Entry}
use Rattle.ps_wire.specs.AtEnd.{nothing_of}
use Rattle.ps_follow.specs.Followed.{IsAt}
use Rattle.ps_follow_run.specs.Following.{IfBad}
use Rattle.ps_follow_run.specs.declared.ends.FollowEnd.{FollowEnd}
use Rattle.ps_follow_run.specs.declared.ends.FollowEnd.TheVariants as end
use Rattle.ps_follow_run.specs.declared.pieces.Taking.{Taking}

-- the feed gave these bytes, and this is left of it
pub record HasTaken (t : Taking) (feed : List ℕ) (left : Option (List ℕ)) : Type 0 where
  pub entries : List Entry
  pub is : IsAt t.follower [] feed entries
  pub counted : t.given ≡ length feed
  pub most : length feed ≤ 2 ^ 40
  pub early : IsTrue t.ended → length feed < 2 ^ 40
  pub at_end : IsTrue t.ended → left ≡ nothing_of left

abbrev pub HasBegun : Taking → Option (List ℕ) → Type 0
HasBegun t left = (feed : List ℕ) × HasTaken t feed left

-- one piece more is taken, which is empty only where the feed has ended
pub record TookPiece (old new : Taking) (feed : List ℕ) (before now : Option (List ℕ)) : Type 0 where
  pub piece : List ℕ
  pub gave : Consumes before now piece
  pub taken : HasTaken new (feed ++ piece) now
  pub some : (0 < length piece) ⊎ IsTrue new.ended
  pub still : IsTrue old.ended → (piece ≡ []) × IsTrue new.ended

-- that ended the run
pub record PieceEnds (old : Taking) (feed : List ℕ) (before now : Option (List ℕ)) (why : FollowEnd) : Type 0 where
  pub piece : List ℕ
  pub gave : Consumes before now piece
  pub going : IsTrue old.ended → ⊥
  pub never : why ≢ end.Done
  pub bad : IfBad (feed ++ piece) why
  pub long : why ≡ end.Long → length (feed ++ piece) ≡ 2 ^ 40

abbrev pub Piece : {T : Type 0} → Taking → Taking → List ℕ → Option (List ℕ) → Option (List ℕ) → Result T FollowEnd → Type 0
Piece old new feed before now (Ok t) = TookPiece old new feed before now
Piece old new feed before now (Err why) = PieceEnds old feed before now why
