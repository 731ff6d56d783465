-- A node's row, as it is seen by its parts, and where it stands.
use Rattle.std.specs.Prelude.{◌≡◌, ℕ, Bool, true, false, List, Option, Some, None, slice_get}
use Rattle.ps_types.specs.declared.node.NodeKey.{NodeKey}
use Rattle.ps_types.specs.declared.rows.NodeRow.{NodeRow}
use Rattle.ps_types.specs.Nodes.{is_node}
use Rattle.ps_nodes.specs.declared.nodes.NodeRef.{NodeRef}

-- the row that is seen by its parts
abbrev pub row_seen : NodeRef → NodeRow
row_seen r = record { key = r.key.now; creator = r.creator.now; config = r.config.now }

-- there is a row, and it is of the node
abbrev pub is_there : NodeKey → Option NodeRow → Bool
is_there node None = false
is_there node (Some row) = is_node node row

-- no row but the one at the place is of the node
abbrev pub IsAlone : NodeKey → List NodeRow → Option ℕ → Type 0
IsAlone node rows place = (at : ℕ) → is_there node (slice_get rows at) ≡ true → place ≡ Some at
