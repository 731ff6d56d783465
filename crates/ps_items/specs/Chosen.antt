-- Which items of a node are asked for by their ids.
use Rattle.std.specs.Prelude.{ℕ, Bool, ◌&&◌, List, filter}
use Rattle.ps_types.specs.declared.node.NodeKey.{NodeKey}
use Rattle.ps_types.specs.declared.rows.ItemRow.{ItemRow}
use Rattle.ps_types.specs.Items.{is_item_at}
use Rattle.ps_types.specs.Rosters.{is_among}

-- the row is of the node, and has one of these ids
abbrev pub is_named_at : NodeKey → List (List ℕ) → ItemRow → Bool
is_named_at node ids row = is_item_at node row && is_among ids row.id

-- the items of the node that have one of these ids
abbrev pub items_named : NodeKey → List (List ℕ) → List ItemRow → List ItemRow
items_named node ids rows = filter (is_named_at node ids) rows
