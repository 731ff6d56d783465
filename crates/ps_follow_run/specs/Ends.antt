-- How a refusal of the feed ends a run.
use Rattle.ps_follow.specs.declared.refusal.FeedRefusal.{FeedRefusal}
use Rattle.ps_follow.specs.declared.refusal.FeedRefusal.TheVariants as refusal
use Rattle.ps_follow_run.specs.declared.ends.FollowEnd.{FollowEnd}
use Rattle.ps_follow_run.specs.declared.ends.FollowEnd.TheVariants as end

abbrev pub end_by : FeedRefusal → FollowEnd
end_by (refusal.Bad at) = end.Bad at
end_by (refusal.Gap at expected) = end.Bad at
end_by (refusal.Differs at) = end.Bad at
end_by refusal.Memory = end.Memory
