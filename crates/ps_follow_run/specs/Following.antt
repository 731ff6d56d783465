-- What a follower's run does to its feed, its input and its sink.
use Rattle.std.specs.Prelude.{◌≡◌, ◌≢◌, ◌⊎◌, ℕ, suc, ◌<◌, ◌≤◌, ◌^◌, [], ◌∷◌, ◌++◌, List, Option, Some, None, Result, Ok, Err, length, map, take}
use Rattle.std.specs.Io.KnownBytes.{Appends, Consumes}
use Rattle.ps_base.specs.Causes.{Rose}
use Rattle.ps_types.specs.Lines.{lines_of}
use Rattle.ps_types.specs.Print.{print}
use Rattle.ps_types.specs.Tree.{Tree}
use Rattle.ps_types.specs.declared.entry.Arrival.{Arrival}
use Rattle.ps_types.specs.declared.entry.Arrival.TheVariants.{Line, TooLong}
use Rattle.ps_types.specs.declared.entry.Entry.{Entry}
use Rattle.ps_model.specs.Replay.{replay}
use Rattle.ps_io.specs.Held.{Held}
use Rattle.ps_wire.specs.AtEnd.{nothing_of}
use Rattle.ps_wire.specs.Writing.{AppendsFront}
use Rattle.ps_wire.specs.declared.streams.Sink.{Ghosts as SinkGhosts}
use Rattle.ps_wire.specs.declared.streams.Source.{Ghosts as SourceGhosts}
use Rattle.ps_follow_laws.specs.Answer.{answer_to}
use Rattle.ps_follow_laws.specs.Feed.{Fed, Stop, goes_on}
use Rattle.ps_follow_run.specs.declared.ends.FollowEnd.{FollowEnd}
use Rattle.ps_follow_run.specs.declared.ends.FollowEnd.TheVariants as end

-- nothing stopped it
abbrev pub end_in : {T : Type 0} → Result T FollowEnd → FollowEnd
end_in (Ok x) = end.Done
end_in (Err why) = why

-- ---- what is worked on

abbrev pub held_source : {S : Type 0} → SourceGhosts S → S → Held
held_source g s = record { faults = g.faults s; bytes = g.left s }

abbrev pub held_sink : {K : Type 0} → SinkGhosts K → K → Held
held_sink g k = record { faults = g.faults k; bytes = g.written k }

-- the feed, the input and the sink, before and now
pub record Worked : Type 0 where
  pub feed : Held
  pub feed_now : Held
  pub input : Held
  pub input_now : Held
  pub sink : Held
  pub sink_now : Held

abbrev pub worked : {F S K : Type 0} → SourceGhosts F → SourceGhosts S → SinkGhosts K → F → F → S → S → K → K → Worked
worked f s k feed feed_now input input_now sink sink_now =
    record {
      feed = held_source f feed;
      feed_now = held_source f feed_now;
      input = held_source s input;
      input_now = held_source s input_now;
      sink = held_sink k sink;
      sink_now = held_sink k sink_now;
    }

-- ---- lines and their answers

-- a line as it arrived, how many bytes of the feed were taken before its answer, and the entries that these led to
pub record Answered : Type 0 where
  pub arrival : Arrival
  pub taken : ℕ
  pub entries : List Entry

-- the reply to the line of that number on the stream of the host
abbrev pub reply_at : List ℕ → ℕ → Answered → Option Tree
reply_at host k a = answer_to host (replay a.entries).book k a.arrival

abbrev pub said : Option Tree → List ℕ
said None = []
said (Some t) = print t ++ 10 ∷ []

-- the replies from this number on, as they are written
abbrev pub said_from : List ℕ → ℕ → List Answered → List ℕ
said_from host k [] = []
said_from host k (a ∷ rest) = said (reply_at host k a) ++ said_from host (suc k) rest

-- ---- the feed

-- its first bytes lead to these entries
pub record LeadsTo (feed : List ℕ) (n : ℕ) (E : List Entry) : Type 0 where
  pub within : n ≤ length feed
  pub at : ℕ
  pub fed : Fed [] (take n feed) E at goes_on

-- It is answered at the entries of the bytes taken before it. These are no fewer than before the line in front of it, and at least as many as its number, or all that the feed has.
pub record IsAnswered (feed : List ℕ) (Ended : Type 0) (k before : ℕ) (a : Answered) : Type 0 where
  pub later : before ≤ a.taken
  pub many : (k ≤ a.taken) ⊎ (Ended × (a.taken ≡ length feed))
  pub leads : LeadsTo feed a.taken a.entries

abbrev pub AreAnswered : List ℕ → Type 0 → ℕ → ℕ → List Answered → Type 0
AreAnswered feed Ended k before [] = before ≤ length feed
AreAnswered feed Ended k before (a ∷ rest) = IsAnswered feed Ended k before a × AreAnswered feed Ended (suc k) a.taken rest

-- it was read to its end
abbrev pub IsReadToEnd : Held → Type 0
IsReadToEnd now = now.bytes ≡ nothing_of now.bytes

-- all its records so far are taken
pub record IsGood (feed : List ℕ) : Type 0 where
  pub entries : List Entry
  pub at : ℕ
  pub fed : Fed [] feed entries at goes_on

-- the record at the offset is bad, leaves a gap, or holds another entry than the one at its place
pub record IsBadAt (feed : List ℕ) (at : ℕ) : Type 0 where
  pub entries : List Entry
  pub stop : Stop
  pub stops : stop ≢ goes_on
  pub fed : Fed [] feed entries at stop

-- ---- the whole run

-- it is what comes of this line, of which 262,144 bytes are taken at most
abbrev pub IsLineOf : Arrival → List ℕ → Type 0
IsLineOf (Line bytes moment) line = (bytes ≡ line) × ((moment ≡ None) × (length line ≤ 262144))
IsLineOf TooLong line = 262144 < length line

abbrev pub AreLinesOf : List Arrival → List (List ℕ) → Type 0
AreLinesOf [] [] = Unit {0}
AreLinesOf [] (line ∷ lines) = ⊥
AreLinesOf (a ∷ arrivals) [] = ⊥
AreLinesOf (a ∷ arrivals) (line ∷ lines) = IsLineOf a line × AreLinesOf arrivals lines

-- these came of the first lines of the bytes that there were, and the others are left
abbrev pub CameOf : Option (List ℕ) → Option (List ℕ) → List Arrival → Type 0
CameOf None left arrivals = Unit {0}
CameOf (Some all) None arrivals = ⊥
CameOf (Some all) (Some left) arrivals =
    (given : List (List ℕ)) × (lines_of all ≡ given ++ lines_of left) × AreLinesOf arrivals given

abbrev pub arrivals_of : List Answered → List Arrival
arrivals_of answered = map (λ (a : Answered). a.arrival) answered

-- so many bytes were given, where they are told
abbrev pub GaveAll : Held → Held → Type 0
GaveAll before now = (piece : List ℕ) × Consumes before.bytes now.bytes piece × (length piece ≡ 2 ^ 40)

abbrev pub GaveFewer : Held → Held → Type 0
GaveFewer before now = (piece : List ℕ) × Consumes before.bytes now.bytes piece × (length piece < 2 ^ 40)

-- both were read to their end, which each reached below 2^40 bytes; all lines are answered
pub record IsDone (t : Worked) (feed : List ℕ) (left : Option (List ℕ)) : Type 0 where
  pub feed_ended : IsReadToEnd t.feed_now
  pub input_ended : IsReadToEnd t.input_now
  pub none_left : left ≡ nothing_of left
  pub feed_early : length feed < 2 ^ 40
  pub input_early : GaveFewer t.input t.input_now

abbrev pub IfBad : List ℕ → FollowEnd → Type 0
IfBad feed end.Done = IsGood feed
IfBad feed (end.Bad at) = IsBadAt feed at
IfBad feed end.Fault = IsGood feed
IfBad feed end.Long = IsGood feed
IfBad feed end.Memory = Unit {0}

-- No count of faults fell; a fault comes only where one rose, and Long exactly where the feed or the input gave 2^40 bytes.
pub record HasCause (t : Worked) (feed : List ℕ) (why : FollowEnd) : Type 0 where
  pub feed_later : t.feed.faults ≤ t.feed_now.faults
  pub input_later : t.input.faults ≤ t.input_now.faults
  pub sink_later : t.sink.faults ≤ t.sink_now.faults
  pub fault : why ≡ end.Fault → Rose t.feed.faults t.feed_now.faults
      ⊎ (Rose t.input.faults t.input_now.faults ⊎ Rose t.sink.faults t.sink_now.faults)
  pub long : why ≡ end.Long → (length feed ≡ 2 ^ 40) ⊎ GaveAll t.input t.input_now

-- The feed gave these bytes. The first lines of the input are answered, each at the entries of bytes that were taken before; the sink has gained their replies, or a front where it failed.
-- A bad record among the bytes taken ends the run, and nothing else ends it so.
pub record Follows (host : List ℕ) (t : Worked) (why : FollowEnd) : Type 0 where
  pub feed : List ℕ
  pub gave : Consumes t.feed.bytes t.feed_now.bytes feed
  pub answered : List Answered
  pub left : Option (List ℕ)
  pub came : CameOf t.input.bytes left (arrivals_of answered)
  pub answers : AreAnswered feed (IsReadToEnd t.feed_now) 1 0 answered
  pub front : AppendsFront t.sink.bytes t.sink_now.bytes (said_from host 1 answered)
  pub whole : why ≢ end.Fault → Appends t.sink.bytes t.sink_now.bytes (said_from host 1 answered)
  pub done : why ≡ end.Done → IsDone t feed left
  pub bad : IfBad feed why
  pub cause : HasCause t feed why
