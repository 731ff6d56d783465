-- The nodes that the links to a collection name.
use Rattle.std.specs.Prelude.{List, filter, map}
use Rattle.ps_types.specs.declared.node.NodeKey.{NodeKey}
use Rattle.ps_types.specs.declared.rows.LinkRow.{LinkRow}
use Rattle.ps_types.specs.Links.{is_link_to}

abbrev pub children_in : NodeKey → List LinkRow → List NodeKey
children_in collection links = map (λ row. row.child) (filter (is_link_to collection) links)
