-- A follower between calls.
use Rattle.std.specs.Prelude.{◌≡◌, ℕ, List, length, take, drop, None}
use Rattle.ps_types.specs.declared.entry.Entry.{Entry}
use Rattle.ps_follow_laws.specs.Feed.{Fed, bad, gap, goes_on, other}
use Rattle.ps_follow.specs.Following.{Stands}
use Rattle.ps_follow.specs.View.{Following}
use Rattle.ps_follow.specs.declared.refusal.FeedRefusal.{FeedRefusal}
use Rattle.ps_follow.specs.declared.refusal.FeedRefusal.TheVariants as refusal

-- these are its entries
abbrev pub Has : Following → List Entry → Type 0
Has f F = Stands f.state f.log F

-- its stream began behind the entries E and has come so far; all its whole records are taken, so that it has the entries F
pub record IsAt (f : Following) (E : List Entry) (stream : List ℕ) (F : List Entry) : Type 0 where
  pub going : f.stuck ≡ None
  pub stands : Has f F
  pub fed : Fed E stream F f.at goes_on
  pub left : f.rest ≡ drop f.at stream

-- the stream went so far, and this is the count of entries
pub record GoesOn (f : Following) (E : List Entry) (stream : List ℕ) (count : ℕ) : Type 0 where
  pub entries : List Entry
  pub is : IsAt f E stream entries
  pub counted : count ≡ length entries

-- all records of a front of the stream are taken
pub record IsOfFront (E : List Entry) (stream : List ℕ) (F : List Entry) : Type 0 where
  pub at : ℕ
  pub fed : Fed E (take at stream) F at goes_on

-- why the stream is refused
abbrev pub RefusedAs : List Entry → List ℕ → List Entry → FeedRefusal → Type 0
RefusedAs E stream F (refusal.Bad at) = Fed E stream F at bad
RefusedAs E stream F (refusal.Gap at expected) = Fed E stream F at gap × (expected ≡ length F)
RefusedAs E stream F (refusal.Differs at) = Fed E stream F at other
RefusedAs E stream F refusal.Memory = IsOfFront E stream F

-- it is refused, and these are the entries then
pub record IsStuck (f : Following) (E : List Entry) (stream : List ℕ) (why : FeedRefusal) : Type 0 where
  pub entries : List Entry
  pub stands : Has f entries
  pub refused : RefusedAs E stream entries why
