-- The nodes of a service host or an account, in the order of their making.
use Rattle.std.specs.Prelude.{List, filter, map}
use Rattle.ps_types.specs.declared.jid.Jid.{Jid}
use Rattle.ps_types.specs.declared.node.NodeKey.{NodeKey}
use Rattle.ps_types.specs.declared.rows.NodeRow.{NodeRow}
use Rattle.ps_types.specs.Nodes.{is_node_of}

abbrev pub key_in : NodeRow → NodeKey
key_in row = row.key

-- the keys of the nodes of the service host or the account
abbrev pub keys_at : Jid → List NodeRow → List NodeKey
keys_at service rows = map key_in (filter (is_node_of service) rows)
