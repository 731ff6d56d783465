-- What a link does to its child.
use Rattle.std.specs.Prelude.{ℕ, List, Option, Some, None}
use Rattle.ps_types.specs.Nodes.{nodes_with}
use Rattle.ps_types.specs.declared.config.NodeConfig.{NodeConfig}
use Rattle.ps_types.specs.declared.node.NodeKey.{NodeKey}
use Rattle.ps_types.specs.declared.rows.NodeRow.{NodeRow}

-- its configuration, with the collection
abbrev pub linked_config : List ℕ → Option NodeConfig → Option NodeConfig
linked_config name None = None
linked_config name (Some config) = Some (record config { collection = name })

-- the nodes after one of them is given a configuration, if there is one
abbrev pub nodes_given : NodeKey → Option NodeConfig → List NodeRow → List NodeRow
nodes_given node None nodes = nodes
nodes_given node (Some config) nodes = nodes_with node config nodes
