-- The refusal of a stream.
use Rattle.std.specs.Prelude.{ℕ, Option, Some, None}
use Rattle.ps_follow.specs.declared.feeding.End.{End}
use Rattle.ps_follow.specs.declared.feeding.End.TheVariants as end
use Rattle.ps_follow.specs.declared.refusal.FeedRefusal.{FeedRefusal}
use Rattle.ps_follow.specs.declared.refusal.FeedRefusal.TheVariants as refusal

-- at an offset, where so many entries are taken
abbrev pub refused_by : End → ℕ → ℕ → Option FeedRefusal
refused_by end.Part at expected = None
refused_by end.Bad at expected = Some (refusal.Bad at)
refused_by end.Gap at expected = Some (refusal.Gap at expected)
refused_by end.Differs at expected = Some (refusal.Differs at)
refused_by end.Memory at expected = Some refusal.Memory
