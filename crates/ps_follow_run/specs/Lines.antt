-- Lines that are answered one after another.
use Rattle.std.specs.Prelude.{◌≡◌, ◌≢◌, ◌⊎◌, ℕ, ◌+◌, ◌≤◌, ◌^◌, Bool, true, false, IsTrue, List, Option, Result, Ok, Err, length}
use Rattle.std.specs.Io.KnownBytes.{Appends, Consumes}
use Rattle.ps_wire.specs.AtEnd.{nothing_of}
use Rattle.ps_wire.specs.Reading.{rest_of}
use Rattle.ps_wire.specs.declared.lines.Lines.{Lines}
use Rattle.ps_wire.specs.declared.streams.Sink.{Ghosts as SinkGhosts}
use Rattle.ps_wire.specs.declared.streams.Source.{Ghosts as SourceGhosts}
use Rattle.ps_wire.specs.Writing.{AppendsFront}
use Rattle.ps_follow_run.specs.Following.{Answered, AreAnswered, CameOf, IfBad, arrivals_of, said_from}
use Rattle.ps_follow_run.specs.Pieces.{HasTaken}
use Rattle.ps_follow_run.specs.declared.ends.FollowEnd.{FollowEnd}
use Rattle.ps_follow_run.specs.declared.ends.FollowEnd.TheVariants as end
use Rattle.ps_follow_run.specs.declared.pieces.Taking.{Taking}

-- what the feed, the input and the sink tell
pub record Told : Type 0 where
  pub feed : Option (List ℕ)
  pub input : Option (List ℕ)
  pub sink : Option (List ℕ)

abbrev pub told : {F S K : Type 0} → SourceGhosts F → (s : SourceGhosts S) → SinkGhosts K → F → Lines S s → K → Told
told f s k feed lines sink = record { feed = f.left feed; input = rest_of lines; sink = k.written sink }

-- nothing is left of the bytes that there were
abbrev pub IsEnd : Option (List ℕ) → Type 0
IsEnd left = left ≡ nothing_of left

-- so many lines are answered, and the replies written
pub record SoFar (host : List ℕ) (before now : Told) (t : Taking) (line : ℕ) : Type 0 where
  pub feed : List ℕ
  pub gave : Consumes before.feed now.feed feed
  pub taken : HasTaken t feed now.feed
  pub answered : List Answered
  pub came : CameOf before.input now.input (arrivals_of answered)
  pub answers : AreAnswered feed (IsTrue t.ended) 1 0 answered
  pub many : length answered ≡ line
  pub behind : (line ≤ length feed) ⊎ IsTrue t.ended
  pub wrote : Appends before.sink now.sink (said_from host 1 answered)

-- they were answered up to an end that is none of the input; `given` is how many bytes that gave
pub record EndsSo (host : List ℕ) (before now : Told) (given : ℕ) (why : FollowEnd) : Type 0 where
  pub feed : List ℕ
  pub gave : Consumes before.feed now.feed feed
  pub answered : List Answered
  pub left : Option (List ℕ)
  pub came : CameOf before.input left (arrivals_of answered)
  pub answers : AreAnswered feed (now.feed ≡ nothing_of now.feed) 1 0 answered
  pub front : AppendsFront before.sink now.sink (said_from host 1 answered)
  pub whole : why ≢ end.Fault → Appends before.sink now.sink (said_from host 1 answered)
  pub never : why ≢ end.Done
  pub bad : IfBad feed why
  pub long : why ≡ end.Long → (length feed ≡ 2 ^ 40) ⊎ (given ≡ 2 ^ 40)

-- one line more, or none
abbrev pub NextSo : List ℕ → Told → Told → Taking → ℕ → ℕ → Result Bool FollowEnd → Type 0
NextSo host before now t line given (Ok true) = SoFar host before now t (line + 1)
NextSo host before now t line given (Ok false) = SoFar host before now t line × IsEnd now.input
NextSo host before now t line given (Err why) = EndsSo host before now given why

-- all lines, and the rest of the feed
abbrev pub AllSo : {T : Type 0} → List ℕ → Told → Told → Taking → ℕ → Result T FollowEnd → Type 0
AllSo host before now t given (Ok x) = (line : ℕ) × (SoFar host before now t line × IsEnd now.input)
AllSo host before now t given (Err why) = EndsSo host before now given why
