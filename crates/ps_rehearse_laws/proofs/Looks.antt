-- Of a node of the part the part has what the Book has.
use Rattle.std.proofs.Common.{◌≡◌, ℕ, Bool, true, List, Option, refl, sym, ap, ◌∙◌}
use Rattle.std.specs.Prelude.{bytes_eq, filter, is_some, map}
use Rattle.std.proofs.lemmas.Bool.{and_parts}
use Rattle.ps_types.specs.declared.jid.Jid.{Jid}
use Rattle.ps_types.specs.declared.node.NodeKey.{NodeKey}
use Rattle.ps_types.specs.declared.rows.AffilRow.{AffilRow}
use Rattle.ps_types.specs.declared.rows.ItemRow.{ItemRow}
use Rattle.ps_types.specs.declared.rows.NodeRow.{NodeRow}
use Rattle.ps_types.specs.declared.rows.SubRow.{SubRow}
use Rattle.ps_types.specs.declared.rows.CountRow.{CountRow}
use Rattle.ps_types.specs.Affils.{affil_at, affil_in, is_affil_at, is_affil_of}
use Rattle.ps_types.specs.Items.{is_item_at, is_item_of, item_at, items_of}
use Rattle.ps_types.specs.Nodes.{is_node, node_at}
use Rattle.ps_types.specs.Same.{same_bare, same_jid, same_node}
use Rattle.ps_types.specs.Subs.{is_sub_at, is_sub_of, sub_count, sub_row}
use Rattle.ps_types.proofs.Same.{same_node-Decides}
use Rattle.ps_secrecy.proofs.ListLaws.{seen-count, seen-find, seen-part}
use Rattle.ps_rehearse_laws.proofs.Lists.{map-filter, map-found}
use Rattle.ps_rehearse_laws.proofs.Part.{my_affils, my_items, my_nodes, my_subs, timeless}

module _ (mine : NodeKey → Bool) (node : NodeKey) (b : Bool) (is : mine node ≡ b) where
  -- the rows of the node are of the part, or none of them is
  pub node-row : (row : NodeRow) → is_node node row ≡ true → mine row.key ≡ b
  node-row row h = ap mine (sym ((same_node-Decides node row.key).0 h)) ∙ is

  at-row : (key : NodeKey) → same_node node key ≡ true → mine key ≡ b
  at-row key h = ap mine (sym ((same_node-Decides node key).0 h)) ∙ is

  pub affil-row : (who : Jid) (row : AffilRow) → is_affil_of node who row ≡ true → mine row.node ≡ b
  affil-row who row h = at-row row.node (and_parts (same_node node row.node) (same_bare who row.who) h).0

  pub affil-at-row : (row : AffilRow) → is_affil_at node row ≡ true → mine row.node ≡ b
  affil-at-row row h = at-row row.node h

  pub sub-of-row : (who : Jid) (row : SubRow) → is_sub_of node who row ≡ true → mine row.node ≡ b
  sub-of-row who row h = at-row row.node (and_parts (same_node node row.node) (same_jid who row.who) h).0

  pub sub-at-row : (row : SubRow) → is_sub_at node row ≡ true → mine row.node ≡ b
  sub-at-row row h = at-row row.node h

  pub item-of-row : (id : List ℕ) (row : ItemRow) → is_item_of node id row ≡ true → mine row.node ≡ b
  item-of-row id row h = at-row row.node (and_parts (same_node node row.node) (bytes_eq id row.id) h).0

  pub item-at-row : (row : ItemRow) → is_item_at node row ≡ true → mine row.node ≡ b
  item-at-row row h = at-row row.node h

  pub count-at-row : (row : CountRow) → same_node node row.node ≡ true → mine row.node ≡ b
  count-at-row row h = at-row row.node h

module _ (mine : NodeKey → Bool) (node : NodeKey) (own : mine node ≡ true) where
  pub node-same : (rows : List NodeRow) → node_at node (my_nodes mine rows) ≡ node_at node rows
  node-same rows = seen-find (λ (row : NodeRow). mine row.key) (is_node node) (node-row mine node true own) rows

  pub affil-same : (who : Jid) (rows : List AffilRow) → affil_at node who (my_affils mine rows) ≡ affil_at node who rows
  affil-same who rows = ap affil_in (seen-find (λ (row : AffilRow). mine row.node) (is_affil_of node who) (affil-row mine node true own who) rows)

  pub sub-same : (who : Jid) (rows : List SubRow) → sub_row node who (my_subs mine rows) ≡ sub_row node who rows
  sub-same who rows = seen-find (λ (row : SubRow). mine row.node) (is_sub_of node who) (sub-of-row mine node true own who) rows

  pub subs-count : (rows : List SubRow) → sub_count node (my_subs mine rows) ≡ sub_count node rows
  subs-count rows = seen-count (λ (row : SubRow). mine row.node) (is_sub_at node) (sub-at-row mine node true own) rows

  pub item-same : (id : List ℕ) (rows : List ItemRow) → is_some (item_at node id (my_items mine rows)) ≡ is_some (item_at node id rows)
  item-same id rows =
      map-found timeless (is_item_of node id) (λ row. refl) (filter (λ (row : ItemRow). mine row.node) rows)
      ∙ ap (λ (o : Option ItemRow). is_some o) (seen-find (λ (row : ItemRow). mine row.node) (is_item_of node id) (item-of-row mine node true own id) rows)

  pub items-same : (rows : List ItemRow) → items_of node (my_items mine rows) ≡ map timeless (items_of node rows)
  items-same rows =
      map-filter timeless (is_item_at node) (λ row. refl) (filter (λ (row : ItemRow). mine row.node) rows)
      ∙ ap (map timeless) (seen-part (λ (row : ItemRow). mine row.node) (is_item_at node) (item-at-row mine node true own) rows)
