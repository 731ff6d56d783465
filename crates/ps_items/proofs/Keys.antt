-- The items of one node, and those of one node and id, have one digest.
use Rattle.std.proofs.Common.{◌≡◌, ℕ, true, List}
use Rattle.std.specs.Prelude.{bytes_eq}
use Rattle.ps_types.specs.declared.jid.Jid.{Jid}
use Rattle.ps_types.specs.declared.node.NodeKey.{NodeKey}
use Rattle.ps_types.specs.declared.rows.ItemRow.{ItemRow}
use Rattle.ps_types.specs.Items.{is_item_at, is_item_of}
use Rattle.ps_types.specs.Rosters.{is_among}
use Rattle.ps_items.specs.Chosen.{is_named_at}
use Rattle.ps_types.specs.Same.{same_bare, same_jid, same_node}
use Rattle.ps_rows.specs.declared.index.Index.{Index}
use Rattle.ps_rows.specs.declared.index.Index.TheVariants.{Key, Node, Bare}
use Rattle.ps_rows.specs.Digests.{node_digest, item_digest}
use Rattle.ps_rows.specs.RowKeys.{item_by, item_kin}
use Rattle.ps_rows.specs.Kin.{AsksKin}
use Rattle.ps_rows.specs.Standing.{AsksBy}
use Rattle.ps_rows.proofs.Sought.{both, one_node, one_item, node-on}

pub at_node : (node : NodeKey) → AsksBy (λ row. is_item_at node row) (λ seed. item_by seed Node) (λ seed. node_digest seed node)
at_node node seed = record { alike = λ row h. one_node seed node row.node h }

pub named_at : (node : NodeKey) (ids : List (List ℕ)) → AsksBy (λ row. is_named_at node ids row) (λ seed. item_by seed Node) (λ seed. node_digest seed node)
named_at node ids seed = record { alike = λ row h. (let p = both (same_node node row.node) (is_among ids row.id) h in one_node seed node row.node p.0) }

pub item_of : (node : NodeKey) (id : List ℕ) → AsksBy (λ row. is_item_of node id row) (λ seed. item_by seed Key) (λ seed. item_digest seed node id)
item_of node id seed = record { alike = λ row h. (let p = both (same_node node row.node) (bytes_eq id row.id) h in one_item seed node row.node id row.id p.0 p.1) }

-- with an item all items of its node are of the node
pub kin_at_node : (node : NodeKey) → AsksKin item_kin (λ row. is_item_at node row)
kin_at_node node = record { all = λ x y k h. node-on node x.node y.node h k }
