-- The rows of a node whose address is among others.
use Rattle.std.specs.Prelude.{Bool, ◌&&◌, not, List, is_some}
use Rattle.ps_types.specs.declared.node.NodeKey.{NodeKey}
use Rattle.ps_types.specs.declared.rows.SubRow.{SubRow}
use Rattle.ps_types.specs.Subs.{is_sub_at, sub_row}

-- the row is of the node, and others have a row of its address there
abbrev pub is_among : NodeKey → List SubRow → SubRow → Bool
is_among node others row = is_sub_at node row && is_some (sub_row node row.who others)
