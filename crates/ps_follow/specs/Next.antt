-- What stands at the front of a feed.
use Rattle.std.specs.Prelude.{◌≡◌, ℕ, true, List, ◌++◌, length, drop}
use Rattle.ps_types.specs.declared.entry.Entry.{Entry}
use Rattle.ps_follow_laws.specs.Feed.{IsNoEntry, IsPart, IsSent, Sent, is_long, sent_bytes}
use Rattle.ps_follow.specs.declared.records.FeedFront.{FeedFront}
use Rattle.ps_follow.specs.declared.records.FeedFront.TheVariants.{Part, Long, NoEntry, Record}

abbrev pub sent : ℕ → Entry → Sent
sent place entry = record { place = place; entry = entry }

-- a record of so many bytes, and what is behind it
pub record IsRecord (bytes : List ℕ) (s : Sent) (size : ℕ) : Type 0 where
  pub is : IsSent s
  pub split : bytes ≡ sent_bytes s ++ drop size bytes
  pub long : size ≡ length (sent_bytes s)

abbrev pub IsNextOf : List ℕ → FeedFront → Type 0
IsNextOf bytes Part = IsPart bytes
IsNextOf bytes Long = is_long bytes ≡ true
IsNextOf bytes NoEntry = IsNoEntry bytes
IsNextOf bytes (Record place entry size) = IsRecord bytes (sent place entry) size
