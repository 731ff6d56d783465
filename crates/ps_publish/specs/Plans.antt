-- The kinds of request that are planned here.
use Rattle.std.specs.Prelude.{Bool, true, false}
use Rattle.ps_types.specs.declared.request.Ask.{Ask}
use Rattle.ps_types.specs.declared.request.Ask.TheVariants as ask

abbrev pub is_planned : Ask → Bool
is_planned (ask.Publish node items options) = true
is_planned (ask.Retract node ids notify) = true
is_planned _ = false
