-- A node that was made last stands.
use Rattle.std.proofs.Common.{◌≡◌, Bool, true, false, cond, List, [], ◌∷◌, ◌++◌, Option, Some, None, refl}
use Rattle.std.specs.Prelude.{is_some}
use Rattle.ps_types.specs.declared.node.NodeKey.{NodeKey}
use Rattle.ps_types.specs.declared.rows.NodeRow.{NodeRow}
use Rattle.ps_types.specs.Nodes.{is_node, node_at, stands}
use Rattle.ps_types.proofs.Same.{same_node-itself}

module _ (node : NodeKey) (row : NodeRow) (is : row.key ≡ node) where
  step : (x : NodeRow) (xs : List NodeRow) (b : Bool) → (stands node xs ≡ false → node_at node (xs ++ row ∷ []) ≡ Some row) → is_some (cond b (Some x) (node_at node xs)) ≡ false
      → cond b (Some x) (node_at node (xs ++ row ∷ [])) ≡ Some row
  step x xs true more h = absurd (cc)
  step x xs false more h = more h

  pub made-last : (rows : List NodeRow) → stands node rows ≡ false → node_at node (rows ++ row ∷ []) ≡ Some row
  made-last [] h = rw is (rw (same_node-itself node) refl)
  made-last (x ∷ xs) h = step x xs (is_node node x) (made-last xs) h
