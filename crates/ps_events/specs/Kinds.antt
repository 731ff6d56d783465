-- The groups of kinds of request by what their events are made of.
use Rattle.std.specs.Prelude.{Bool, true, false}
use Rattle.ps_types.specs.declared.request.Ask.{Ask}
use Rattle.ps_types.specs.declared.request.Ask.TheVariants as ask

-- nodes, and what they hold
abbrev pub is_of_nodes : Ask → Bool
is_of_nodes (ask.Create node form) = true
is_of_nodes (ask.Publish node items options) = true
is_of_nodes (ask.Retract node ids notify) = true
is_of_nodes (ask.Purge node) = true
is_of_nodes (ask.Delete node) = true
is_of_nodes (ask.ConfigSet node form) = true
is_of_nodes _ = false

-- subscriptions
abbrev pub is_of_subs : Ask → Bool
is_of_subs (ask.SubsSet node rows) = true
is_of_subs (ask.Subscribe node who form) = true
is_of_subs (ask.Approve node who allow) = true
is_of_subs _ = false
