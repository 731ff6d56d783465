-- The row of a node where nodes come, go and change.
use Rattle.std.proofs.Common.{◌≡◌, Bool, true, false, cond, not, List, [], ◌∷◌, Some, option_map, refl, sym, ap, ◌∙◌}
use Rattle.ps_types.specs.declared.config.NodeConfig.{NodeConfig}
use Rattle.ps_types.specs.declared.node.NodeKey.{NodeKey}
use Rattle.ps_types.specs.declared.rows.NodeRow.{NodeRow}
use Rattle.ps_types.specs.Nodes.{is_node, node_at, nodes_with, nodes_without, with_config}
use Rattle.ps_types.specs.Same.{same_node}
use Rattle.ps_types.proofs.Same.{same_node-Decides}

module _ (n m : NodeKey) (apart : same_node n m ≡ false) where
  -- a row of the one isn't a row of the other
  other : (row : NodeRow) → is_node m row ≡ true → is_node n row ≡ false
  other row h = ap (same_node n) (sym ((same_node-Decides m row.key).0 h)) ∙ apart

  without-step : (row : NodeRow) (rows : List NodeRow) (b : Bool) → is_node m row ≡ b → node_at n (nodes_without m rows) ≡ node_at n rows
      → node_at n (cond (not b) (row ∷ nodes_without m rows) (nodes_without m rows)) ≡ cond (is_node n row) (Some row) (node_at n rows)
  without-step row rows true e h = h ∙ sym (rw (other row e) refl)
  without-step row rows false e h = ap (λ found. cond (is_node n row) (Some row) found) h

  pub node_at-without : (rows : List NodeRow) → node_at n (nodes_without m rows) ≡ node_at n rows
  node_at-without [] = refl
  node_at-without (row ∷ rows) = without-step row rows (is_node m row) refl (node_at-without rows)

  with-step : (config : NodeConfig) (row : NodeRow) (rows : List NodeRow) (b : Bool) → is_node m row ≡ b → node_at n (nodes_with m config rows) ≡ node_at n rows
      → node_at n (cond b (with_config config row ∷ rows) (row ∷ nodes_with m config rows)) ≡ cond (is_node n row) (Some row) (node_at n rows)
  with-step config row rows true e h = rw (other row e) refl
  with-step config row rows false e h = ap (λ found. cond (is_node n row) (Some row) found) h

  pub node_at-with : (config : NodeConfig) (rows : List NodeRow) → node_at n (nodes_with m config rows) ≡ node_at n rows
  node_at-with config [] = refl
  node_at-with config (row ∷ rows) = with-step config row rows (is_node m row) refl (node_at-with config rows)

module _ (m : NodeKey) where
  own-step : (config : NodeConfig) (row : NodeRow) (rows : List NodeRow) (b : Bool) → is_node m row ≡ b → node_at m (nodes_with m config rows) ≡ option_map (with_config config) (node_at m rows)
      → node_at m (cond b (with_config config row ∷ rows) (row ∷ nodes_with m config rows)) ≡ option_map (with_config config) (cond b (Some row) (node_at m rows))
  own-step config row rows true e h = rw e refl
  own-step config row rows false e h = rw e h

  -- a node that is configured
  pub node_at-configured : (config : NodeConfig) (rows : List NodeRow) → node_at m (nodes_with m config rows) ≡ option_map (with_config config) (node_at m rows)
  node_at-configured config [] = refl
  node_at-configured config (row ∷ rows) = own-step config row rows (is_node m row) refl (node_at-configured config rows)
