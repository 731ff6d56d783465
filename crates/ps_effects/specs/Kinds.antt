-- The groups of kinds of request by what they change, and what is asked of the Book.
use Rattle.std.specs.Prelude.{◌<◌, ◌^◌, ◌-◌, Bool, true, false}
use Rattle.ps_types.specs.declared.jid.Jid.{Jid}
use Rattle.ps_types.specs.declared.node.NodeKey.{NodeKey}
use Rattle.ps_types.specs.declared.request.Ask.{Ask}
use Rattle.ps_types.specs.declared.request.Ask.TheVariants as ask
use Rattle.ps_types.specs.Counts.{made_at}
use Rattle.ps_model.specs.Book.{Book}

-- nodes, what they hold, and who owns them
abbrev pub is_of_nodes : Ask → Bool
is_of_nodes (ask.Create node form) = true
is_of_nodes (ask.Publish node items options) = true
is_of_nodes (ask.Retract node ids notify) = true
is_of_nodes (ask.Purge node) = true
is_of_nodes (ask.Delete node) = true
is_of_nodes (ask.ConfigSet node form) = true
is_of_nodes (ask.AffilsSet node rows) = true
is_of_nodes _ = false

-- subscriptions
abbrev pub is_of_subs : Ask → Bool
is_of_subs (ask.SubsSet node rows) = true
is_of_subs (ask.Subscribe node who form) = true
is_of_subs (ask.Unsubscribe node who subid) = true
is_of_subs (ask.OptionsSet node who form) = true
is_of_subs (ask.Approve node who allow) = true
is_of_subs _ = false

-- rosters and resources
abbrev pub is_of_router : Ask → Bool
is_of_router (ask.RosterSet item) = true
is_of_router (ask.Present caps) = true
is_of_router ask.Absent = true
is_of_router (ask.CapsAnswer node info) = true
is_of_router _ = false

-- no bare address has made so many ids at a node that one more wouldn't be counted
abbrev pub AreFew : Book → Type 0
AreFew book = (node : NodeKey) (who : Jid) → made_at node who book.counts < 2 ^ 64 - 1
