-- The node of a key, the nodes that one address made, and those of a service have one digest.
use Rattle.std.proofs.Common.{◌≡◌, ℕ, refl, ap, sym}
use Rattle.ps_rows.specs.declared.index.Index.{Index}
use Rattle.ps_rows.specs.declared.index.Index.TheVariants.{Key, Node, Bare}
use Rattle.ps_rows.specs.Digests.{bare_digest, node_digest}
use Rattle.ps_rows.specs.Kin.{AsksKin}
use Rattle.ps_rows.specs.RowKeys.{node_by, node_kin}
use Rattle.ps_rows.specs.Standing.{Asks, AsksBy}
use Rattle.ps_rows.proofs.Sought.{bare-on, one_address, one_node}
use Rattle.ps_types.proofs.Same.{same_jid-Decides}
use Rattle.ps_types.specs.declared.config.NodeConfig.{NodeConfig}
use Rattle.ps_types.specs.declared.jid.Jid.{Jid}
use Rattle.ps_types.specs.declared.node.NodeKey.{NodeKey}
use Rattle.ps_types.specs.declared.rows.NodeRow.{NodeRow}
use Rattle.ps_types.specs.Nodes.{is_made_by, is_node, is_node_of, with_config}

pub of_key : (node : NodeKey) → AsksBy (λ row. is_node node row) (λ seed. node_by seed Key) (λ seed. node_digest seed node)
of_key node seed = record { alike = λ row h. one_node seed node row.key h }

pub of_maker : (who : Jid) → AsksBy (λ row. is_made_by who row) (λ seed. node_by seed Node) (λ seed. bare_digest seed who)
of_maker who seed = record { alike = λ row h. one_address seed who row.creator h }

-- with a node all nodes of its maker are of the maker
pub kin_of_maker : (who : Jid) → AsksKin node_kin (λ row. is_made_by who row)
kin_of_maker who = record { all = λ x y k h. bare-on who x.creator y.creator h k }

pub of_service : (seed : ℕ) (service : Jid) → Asks (is_node_of service) (node_by seed Bare) (bare_digest seed service)
of_service seed service = record { alike = λ row h. ap (λ j. bare_digest seed j) (sym ((same_jid-Decides service row.key.service).0 h)) }

-- a configuration changes no digest
pub configured : (seed : ℕ) (config : NodeConfig) (index : Index) (row : NodeRow) → node_by seed index (with_config config row) ≡ node_by seed index row
configured seed config Key row = refl
configured seed config Node row = refl
configured seed config Bare row = refl
