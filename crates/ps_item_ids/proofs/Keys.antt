-- The counts of one node, and those of a node and a bare address, have one digest.
use Rattle.std.proofs.Common.{◌≡◌, ℕ, true, refl}
use Rattle.ps_types.specs.declared.jid.Jid.{Jid}
use Rattle.ps_types.specs.declared.node.NodeKey.{NodeKey}
use Rattle.ps_types.specs.declared.rows.CountRow.{CountRow}
use Rattle.ps_types.specs.Counts.{is_count_at, is_count_of}
use Rattle.ps_types.specs.Same.{same_bare, same_node}
use Rattle.ps_rows.specs.declared.index.Index.{Index}
use Rattle.ps_rows.specs.declared.index.Index.TheVariants.{Key, Node, Bare}
use Rattle.ps_rows.specs.Digests.{node_digest, bare_at_digest}
use Rattle.ps_rows.specs.RowKeys.{count_by, count_kin}
use Rattle.ps_rows.specs.Standing.{AsksBy}
use Rattle.ps_rows.proofs.Sought.{both, one_node, one_bare_at, node-back}

pub at_node : (node : NodeKey) → AsksBy (λ row. is_count_at node row) (λ seed. count_by seed Node) (λ seed. node_digest seed node)
at_node node seed = record { alike = λ row h. one_node seed node row.node h }

pub count_of : (node : NodeKey) (who : Jid) → AsksBy (λ row. is_count_of node who row) (λ seed. count_by seed Key) (λ seed. bare_at_digest seed node who)
count_of node who seed = record { alike = λ row h. (let p = both (same_node node row.node) (same_bare who row.who) h in one_bare_at seed node row.node who row.who p.0 p.1) }

-- a row of the same key has the same digests
pub alike : (seed : ℕ) (row old : CountRow) (index : Index) → is_count_of row.node row.who old ≡ true → count_by seed index old ≡ count_by seed index row
alike seed row old Key h = let p = both (same_node row.node old.node) (same_bare row.who old.who) h in one_bare_at seed row.node old.node row.who old.who p.0 p.1
alike seed row old Node h = one_node seed row.node old.node (both (same_node row.node old.node) (same_bare row.who old.who) h).0
alike seed row old Bare h = refl

pub kin : (row old : CountRow) → is_count_of row.node row.who old ≡ true → count_kin old row ≡ true
kin row old h = node-back row.node old.node (both (same_node row.node old.node) (same_bare row.who old.who) h).0
