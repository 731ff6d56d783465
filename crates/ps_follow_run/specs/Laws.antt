-- A follower's run beside the service that it follows.
use Rattle.std.specs.Prelude.{ℕ, List, [], ◌∷◌}
use Rattle.ps_types.specs.declared.entry.Entry.{Entry}
use Rattle.ps_model.specs.Replay.{lawful}
use Rattle.ps_io.specs.Held.{Held}
use Rattle.ps_follow_laws.specs.Follow.{IsFeedOf, IsFront}
use Rattle.ps_follow_run.specs.Following.{Answered, AreAnswered, IsReadToEnd}

-- each line is answered at a front of the entries, which holds that of the line before it
abbrev pub AreOf : List Entry → List Entry → List Answered → Type 0
AreOf E before [] = Unit {0}
AreOf E before (a ∷ rest) = IsFront a.entries E × (IsFront before a.entries × AreOf E a.entries rest)

-- where the feed is of one lawful list: records of it in any order and number, cut off anywhere
abbrev pub EachAnswerIsOfTheFeed : Type 0
EachAnswerIsOfTheFeed =
    (E : List Entry) (feed : List ℕ) (now : Held) (answered : List Answered)
    → lawful E → IsFeedOf E feed → AreAnswered feed (IsReadToEnd now) 1 0 answered → AreOf E [] answered
