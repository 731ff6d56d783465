-- The affiliations of one node, of one bare address, and of both, have one digest.
use Rattle.std.proofs.Common.{◌≡◌, ℕ, true, List}
use Rattle.std.specs.Prelude.{bytes_eq, find, is_some, not}
use Rattle.ps_types.specs.declared.jid.Jid.{Jid}
use Rattle.ps_types.specs.declared.node.NodeKey.{NodeKey}
use Rattle.ps_types.specs.declared.rows.AffilRow.{AffilRow}
use Rattle.ps_types.specs.Affils.{is_affil_at, is_affil_by, is_affil_of, is_owner}
use Rattle.ps_types.specs.Same.{same_bare, same_jid, same_node}
use Rattle.ps_affil.specs.Among.{is_among, is_other_owner, owns_at}
use Rattle.ps_rows.specs.declared.index.Index.{Index}
use Rattle.ps_rows.specs.declared.index.Index.TheVariants.{Key, Node, Bare}
use Rattle.ps_rows.specs.Digests.{node_digest, bare_at_digest, bare_digest}
use Rattle.ps_rows.specs.RowKeys.{affil_by, affil_kin}
use Rattle.ps_rows.specs.Kin.{AsksKin}
use Rattle.ps_rows.specs.Standing.{AsksBy}
use Rattle.ps_rows.proofs.Sought.{both, one_node, one_address, one_bare_at, node-back}

pub at_node : (node : NodeKey) → AsksBy (λ row. is_affil_at node row) (λ seed. affil_by seed Node) (λ seed. node_digest seed node)
at_node node seed = record { alike = λ row h. one_node seed node row.node h }

pub held : (who : Jid) → AsksBy (λ row. is_affil_by who row) (λ seed. affil_by seed Bare) (λ seed. bare_digest seed who)
held who seed = record { alike = λ row h. one_address seed who row.who h }

pub affil_of : (node : NodeKey) (who : Jid) → AsksBy (λ row. is_affil_of node who row) (λ seed. affil_by seed Key) (λ seed. bare_at_digest seed node who)
affil_of node who seed = record { alike = λ row h. (let p = both (same_node node row.node) (same_bare who row.who) h in one_bare_at seed node row.node who row.who p.0 p.1) }

-- a row of the same key has the same digests
pub alike : (seed : ℕ) (row old : AffilRow) (index : Index) → is_affil_of row.node row.who old ≡ true → affil_by seed index old ≡ affil_by seed index row
alike seed row old Key h = let p = both (same_node row.node old.node) (same_bare row.who old.who) h in one_bare_at seed row.node old.node row.who old.who p.0 p.1
alike seed row old Node h = one_node seed row.node old.node (both (same_node row.node old.node) (same_bare row.who old.who) h).0
alike seed row old Bare h = one_address seed row.who old.who (both (same_node row.node old.node) (same_bare row.who old.who) h).1

pub kin : (row old : AffilRow) → is_affil_of row.node row.who old ≡ true → affil_kin old row ≡ true
kin row old h = node-back row.node old.node (both (same_node row.node old.node) (same_bare row.who old.who) h).0

pub among : (node : NodeKey) (others : List AffilRow) → AsksBy (is_among node others) (λ seed. affil_by seed Node) (λ seed. node_digest seed node)
among node others seed = record { alike = λ row h. one_node seed node row.node (both (same_node node row.node) (is_some (find (is_affil_of node row.who) others)) h).0 }

pub other_owner : (node : NodeKey) (others : List AffilRow) → AsksBy (is_other_owner node others) (λ seed. affil_by seed Node) (λ seed. node_digest seed node)
other_owner node others seed = record {
  alike = λ row h. one_node seed node row.node
      (both (same_node node row.node) (is_owner row.affil) (both (not (is_among node others row)) (owns_at node row) h).1).0;
}
