-- The subscriptions of one node, of one bare address, and of a node and an address, have one digest.
use Rattle.std.proofs.Common.{◌≡◌, ℕ, true, ◌&&◌, List}
use Rattle.std.specs.Prelude.{is_some}
use Rattle.ps_types.specs.declared.jid.Jid.{Jid}
use Rattle.ps_types.specs.declared.node.NodeKey.{NodeKey}
use Rattle.ps_types.specs.declared.rows.SubRow.{SubRow}
use Rattle.ps_types.specs.Subs.{is_sub_at, is_sub_by, is_sub_of, is_subscribed, sub_row, subscribes}
use Rattle.ps_types.specs.Same.{same_bare, same_jid, same_node}
use Rattle.ps_subs.specs.Among.{is_among}
use Rattle.ps_rows.specs.declared.index.Index.{Index}
use Rattle.ps_rows.specs.declared.index.Index.TheVariants.{Key, Node, Bare}
use Rattle.ps_rows.specs.Digests.{node_digest, jid_at_digest, bare_digest}
use Rattle.ps_rows.specs.RowKeys.{sub_by, sub_kin}
use Rattle.ps_rows.specs.Kin.{AsksKin}
use Rattle.ps_rows.specs.Standing.{AsksBy}
use Rattle.ps_rows.proofs.Sought.{both, one_node, one_address, one_jid_at, bare_of_jid, node-back, node-on}

pub at_node : (node : NodeKey) → AsksBy (λ row. is_sub_at node row) (λ seed. sub_by seed Node) (λ seed. node_digest seed node)
at_node node seed = record { alike = λ row h. one_node seed node row.node h }

pub held : (who : Jid) → AsksBy (λ row. is_sub_by who row) (λ seed. sub_by seed Bare) (λ seed. bare_digest seed who)
held who seed = record { alike = λ row h. one_address seed who row.who h }

pub sub_of : (node : NodeKey) (who : Jid) → AsksBy (λ row. is_sub_of node who row) (λ seed. sub_by seed Key) (λ seed. jid_at_digest seed node who)
sub_of node who seed = record { alike = λ row h. (let p = both (same_node node row.node) (same_jid who row.who) h in one_jid_at seed node row.node who row.who p.0 p.1) }

pub subscribed : (node : NodeKey) (who : Jid) → AsksBy (λ row. subscribes node who row) (λ seed. sub_by seed Bare) (λ seed. bare_digest seed who)
subscribed node who seed = record {
  alike = λ row h. (let p = both (same_node node row.node && same_bare who row.who) (is_subscribed row.state) h in let q = both (same_node node row.node)
      (same_bare who row.who) p.0 in one_address seed who row.who q.1);
}

-- with a subscription all of its node are of the node
pub kin_at_node : (node : NodeKey) → AsksKin sub_kin (λ row. is_sub_at node row)
kin_at_node node = record { all = λ x y k h. node-on node x.node y.node h k }

-- a row of the same key has the same digests
pub alike : (seed : ℕ) (row old : SubRow) (index : Index) → is_sub_of row.node row.who old ≡ true → sub_by seed index old ≡ sub_by seed index row
alike seed row old Key h = let p = both (same_node row.node old.node) (same_jid row.who old.who) h in one_jid_at seed row.node old.node row.who old.who p.0 p.1
alike seed row old Node h = one_node seed row.node old.node (both (same_node row.node old.node) (same_jid row.who old.who) h).0
alike seed row old Bare h = one_address seed row.who old.who (bare_of_jid row.who old.who (both (same_node row.node old.node) (same_jid row.who old.who) h).1)

pub kin : (row old : SubRow) → is_sub_of row.node row.who old ≡ true → sub_kin old row ≡ true
kin row old h = node-back row.node old.node (both (same_node row.node old.node) (same_jid row.who old.who) h).0

pub among : (node : NodeKey) (others : List SubRow) → AsksBy (is_among node others) (λ seed. sub_by seed Node) (λ seed. node_digest seed node)
among node others seed = record { alike = λ row h. one_node seed node row.node (both (same_node node row.node) (is_some (sub_row node row.who others)) h).0 }
