-- How many items a node may hold.
use Rattle.std.specs.Prelude.{ℕ, ◌≤◌, Option, Some, None, cond}
use Rattle.ps_types.specs.declared.node.NodeKey.{NodeKey}
use Rattle.ps_types.specs.declared.rows.NodeRow.{NodeRow}
use Rattle.ps_types.specs.Items.{item_count}
use Rattle.ps_types.specs.Nodes.{node_at}
use Rattle.ps_model.specs.Book.{Book}

-- as many as it is configured to keep; none where items don't persist, and none where no such node stands
abbrev pub item_bound : Option NodeRow → ℕ
item_bound None = 0
item_bound (Some row) = cond row.config.persist_items row.config.max_items 0

-- no node holds more
abbrev pub IsBounded : Book → Type 0
IsBounded book = (node : NodeKey) → item_count node book.items ≤ item_bound (node_at node book.nodes)
