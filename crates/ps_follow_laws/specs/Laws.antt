-- The laws of a follower, as they are read.
use Rattle.std.specs.Prelude.{◌≡◌, ◌≢◌, ◌⊎◌, ℕ, ◌+◌, ◌<◌, ◌≤◌, ◌^◌, false, List, [], ◌++◌, drop, length, None}
use Rattle.std.specs.List.{AllByRecursion}
use Rattle.ps_types.specs.declared.entry.Arrival.{Arrival}
use Rattle.ps_types.specs.declared.entry.Entry.{Entry}
use Rattle.ps_model.specs.Book.{Book}
use Rattle.ps_model.specs.Replay.{lawful}
use Rattle.ps_model.specs.Replies.{entry_of, reply_to}
use Rattle.ps_follow_laws.specs.Answer.{answer_to}
use Rattle.ps_follow_laws.specs.Feed.{Fed, Stop, feed_of, gap, goes_on}
use Rattle.ps_follow_laws.specs.Follow.{Follows, IsFeedOf, IsFeedable, IsFront, records_from}

-- ---- what bytes lead to

-- one list, one offset and one stop at most
abbrev pub EachFeedIsOne : Type 0
EachFeedIsOne =
    (E F G : List Entry) (bytes : List ℕ) (at later : ℕ) (stop end : Stop)
    → Fed E bytes F at stop → Fed E bytes G later end → (F ≡ G) × ((at ≡ later) × (stop ≡ end))

-- and one at least
abbrev pub EachFeedHasOne : Type 0
EachFeedHasOne =
    (E : List Entry) (bytes : List ℕ) → AllByRecursion (λ b. b < 2 ^ 8) bytes
    → (F : List Entry) × (at : ℕ) × (stop : Stop) × Fed E bytes F at stop

-- ---- pieces

-- what a piece leaves over goes before the next, and then the whole is as if it came at once
abbrev pub EachPieceGoesOn : Type 0
EachPieceGoesOn =
    (E F G : List Entry) (front back : List ℕ) (at more : ℕ) (stop : Stop)
    → Fed E front F at goes_on → Fed F (drop at front ++ back) G more stop → Fed E (front ++ back) G (at + more) stop

-- a stop stays, whatever comes
abbrev pub EachStopStays : Type 0
EachStopStays =
    (E F : List Entry) (front back : List ℕ) (at : ℕ) (stop : Stop)
    → stop ≢ goes_on → Fed E front F at stop → Fed E (front ++ back) F at stop

-- the entries only grow, with each piece
abbrev pub NoPieceTakesAway : Type 0
NoPieceTakesAway =
    (E F G : List Entry) (front back : List ℕ) (at later : ℕ) (stop end : Stop)
    → Fed E front F at stop → Fed E (front ++ back) G later end → IsFront F G

-- ---- streams

-- and with each stream; what is lawful stays so
abbrev pub NoStreamTakesAway : Type 0
NoStreamTakesAway =
    (E F : List Entry) (streams : List (List ℕ)) → Follows E streams F → IsFront E F × (lawful E → lawful F)

-- where all records are of one lawful list, in whatever pieces, order, repeats and cuts, the entries are its first ones
abbrev pub EachFollowerIsFront : Type 0
EachFollowerIsFront =
    (E : List Entry) → lawful E → (F : List Entry) (streams : List (List ℕ)) → AllByRecursion (IsFeedOf E) streams
    → Follows [] streams F → IsFront F E

-- and the feed of such a one goes on, or leaves a gap
abbrev pub EachFeedIsGood : Type 0
EachFeedIsGood =
    (E F G : List Entry) (bytes : List ℕ) (at : ℕ) (stop : Stop)
    → lawful E → IsFront F E → IsFeedOf E bytes → Fed F bytes G at stop
    → IsFront G E × ((stop ≡ goes_on) ⊎ (stop ≡ gap))

-- one that has the entries before a place catches up by the feed from there
abbrev pub EachFeedCatchesUp : Type 0
EachFeedCatchesUp =
    (E F : List Entry) (from : ℕ) → lawful E → IsFeedable E → IsFront F E → from ≤ length F
    → (let bytes = feed_of (records_from from E) in
    IsFeedOf E bytes × Fed F bytes E (length bytes) goes_on)

-- ---- answers

-- what would make no entry is answered as the service would
abbrev pub EachReadIsAnswered : Type 0
EachReadIsAnswered =
    (host : List ℕ) (book : Book) (line : ℕ) (arrival : Arrival) → entry_of host book line arrival false ≡ None
    → answer_to host book line arrival ≡ reply_to host book line arrival false
