-- What a piece of a feed does.
use Rattle.std.specs.Prelude.{◌≡◌, ℕ, List, ◌++◌, length, drop, None}
use Rattle.ps_types.specs.declared.entry.Entry.{Entry}
use Rattle.ps_model.specs.Book.{State}
use Rattle.ps_follow_laws.specs.Feed.{Ends, IsSent, Sent, after_sent, bad, fate, gap, goes_on, other, sent_bytes, stop_by}
use Rattle.ps_follow.specs.Following.{Goes, Stands}
use Rattle.ps_follow.specs.declared.feeding.End.{End}
use Rattle.ps_follow.specs.declared.feeding.End.TheVariants as end

-- the record at the front of the bytes was taken
pub record TookOne (E : List Entry) (bytes : List ℕ) (state : State) (log : List (List ℕ)) (size : ℕ) : Type 0 where
  pub sent : Sent
  pub is : IsSent sent
  pub split : bytes ≡ sent_bytes sent ++ drop size bytes
  pub long : size ≡ length (sent_bytes sent)
  pub taken : stop_by (fate E sent) ≡ None
  pub stands : Stands state log (after_sent E sent)

-- why no more are; running out of memory says nothing
abbrev pub EndsAs : List Entry → List ℕ → End → Type 0
EndsAs E bytes end.Part = Ends E bytes goes_on
EndsAs E bytes end.Bad = Ends E bytes bad
EndsAs E bytes end.Gap = Ends E bytes gap
EndsAs E bytes end.Differs = Ends E bytes other
EndsAs E bytes end.Memory = Unit {0}

pub record Stopped (E : List Entry) (bytes : List ℕ) (state : State) (log : List (List ℕ)) (why : End) : Type 0 where
  pub stands : Stands state log E
  pub ends : EndsAs E bytes why

-- records were taken up to the offset
pub record Going (E : List Entry) (bytes : List ℕ) (from : ℕ) (state : State) (log : List (List ℕ)) : Type 0 where
  pub entries : List Entry
  pub goes : Goes E bytes entries from (drop from bytes)
  pub stands : Stands state log entries

-- and there no more are
pub record Went (E : List Entry) (bytes : List ℕ) (state : State) (log : List (List ℕ)) (from : ℕ) (why : End)
    : Type 0 where
  pub entries : List Entry
  pub goes : Goes E bytes entries from (drop from bytes)
  pub stands : Stands state log entries
  pub ends : EndsAs entries (drop from bytes) why
