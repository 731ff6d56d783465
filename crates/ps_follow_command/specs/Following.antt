-- What following does to the world.
use Rattle.std.specs.Prelude.{◌≡◌, ◌⊎◌, ℕ, List, [], ◌∷◌}
use Rattle.ps_io.specs.Held.{Held}
use Rattle.ps_io.specs.declared.world.Kind.TheVariants.{Sink, Source}
use Rattle.ps_io.specs.declared.world.OpenCall.{OpenCall}
use Rattle.ps_commands.specs.declared.command.FollowWords.{FollowWords}
use Rattle.ps_follow_run.specs.Following.{Follows, Worked}
use Rattle.ps_follow_run.specs.declared.ends.FollowEnd.{FollowEnd}
use Rattle.ps_follow_run.specs.declared.ends.FollowEnd.TheVariants as end
use Rattle.ps_status.specs.Leaving.{Touched}
use Rattle.ps_status.specs.Outside.{Outside, Untouched}
use Rattle.ps_status.specs.declared.status.Status.{Status}
use Rattle.ps_status.specs.declared.status.Status.TheVariants.{Done, FeedBad, StreamFault, StreamLong, Memory}

-- the source of lines and the sink
abbrev pub line_openings : FollowWords → List OpenCall
line_openings w = record { kind = Source; name = w.source } ∷ record { kind = Sink; name = w.sink } ∷ []

abbrev pub line_touches : FollowWords → Touched
line_touches w = record { sources = w.source ∷ []; sinks = w.sink ∷ []; stores = [] }

-- behind the feed; these three are touched alone
abbrev pub follow_openings : FollowWords → List OpenCall
follow_openings w = record { kind = Source; name = w.feed } ∷ line_openings w

abbrev pub follow_touches : FollowWords → Touched
follow_touches w = record { sources = w.feed ∷ w.source ∷ []; sinks = w.sink ∷ []; stores = [] }

abbrev pub end_status : FollowEnd → Status
end_status end.Done = Done
end_status (end.Bad at) = FeedBad at
end_status end.Fault = StreamFault
end_status end.Long = StreamLong
end_status end.Memory = Memory

-- the lines were answered
pub record RanFollowing (w : FollowWords) (t : Worked) (st : Status) : Type 0 where
  pub outcome : FollowEnd
  pub status : st ≡ end_status outcome
  pub follows : Follows w.host t outcome

-- what the world holds under the names of the words, or, of the feed, what it tells while it is open
abbrev pub worked_over : FollowWords → Held → Held → Outside → Outside → Worked
worked_over w feed feed_now old new =
    record {
      feed = feed;
      feed_now = feed_now;
      input = old.sources w.source;
      input_now = new.sources w.source;
      sink = old.sinks w.sink;
      sink_now = new.sinks w.sink;
    }

abbrev pub worked_in : FollowWords → Outside → Outside → Worked
worked_in w old new = worked_over w (old.sources w.feed) (new.sources w.feed) old new

-- or nothing was done, to the feed neither
abbrev pub FollowsOver : FollowWords → Held → Held → Outside → Outside → (List ℕ → ℕ → List ℕ → Type 0) → (List ℕ → ℕ → List ℕ → Type 0)
    → Status → Type 0
FollowsOver w feed feed_now old new lefts lefts_now st =
    (Untouched old new lefts lefts_now st × (feed_now ≡ feed)) ⊎ RanFollowing w (worked_over w feed feed_now old new) st

abbrev pub FollowsIn : FollowWords → Outside → Outside → (List ℕ → ℕ → List ℕ → Type 0) → (List ℕ → ℕ → List ℕ → Type 0)
    → Status → Type 0
FollowsIn w old new lefts lefts_now st =
    Untouched old new lefts lefts_now st ⊎ RanFollowing w (worked_in w old new) st
