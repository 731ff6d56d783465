-- The kinds of request that are planned here.
use Rattle.std.specs.Prelude.{Bool, true, false}
use Rattle.ps_types.specs.declared.request.Ask.{Ask}
use Rattle.ps_types.specs.declared.request.Ask.TheVariants as ask

abbrev pub is_planned : Ask → Bool
is_planned (ask.MyAffils node) = true
is_planned (ask.MySubs node) = true
is_planned (ask.Subscribe node who form) = true
is_planned (ask.Unsubscribe node who subid) = true
is_planned (ask.OptionsGet node who) = true
is_planned (ask.OptionsSet node who form) = true
is_planned (ask.ItemsGet node max ids) = true
is_planned (ask.RosterSet item) = true
is_planned (ask.Present caps) = true
is_planned ask.Absent = true
is_planned (ask.CapsAnswer node info) = true
is_planned _ = false
