-- The rows of a node whose address is among others.
use Rattle.std.specs.Prelude.{Bool, ◌&&◌, not, List, find, is_some}
use Rattle.ps_types.specs.declared.node.NodeKey.{NodeKey}
use Rattle.ps_types.specs.declared.rows.AffilRow.{AffilRow}
use Rattle.ps_types.specs.Affils.{is_affil_at, is_affil_of, is_owner}

-- the row is of the node, and others have a row of its address there
abbrev pub is_among : NodeKey → List AffilRow → AffilRow → Bool
is_among node others row = is_affil_at node row && is_some (find (is_affil_of node row.who) others)

-- the row makes its address an owner of the node
abbrev pub owns_at : NodeKey → AffilRow → Bool
owns_at node row = is_affil_at node row && is_owner row.affil

-- another row does
abbrev pub is_other_owner : NodeKey → List AffilRow → AffilRow → Bool
is_other_owner node others row = not (is_among node others row) && owns_at node row
