-- What is kept beside the places of the nodes: a mark of the name of each, and which places are empty.
use Rattle.std.specs.Prelude.{◌≡◌, ℕ, ◌-◌, ◌≤◌, min, List, Option, length, count_by, vec_capacity}
use Rattle.std.specs.Global.{Vec}
use Rattle.ps_base.specs.Rows.{Table}
use Rattle.ps_rows.specs.Digests.{text_digest}
use Rattle.ps_rows.specs.Placed.{Places}
use Rattle.ps_rows.specs.Standing.{marked_by, standing}
use Rattle.ps_types.specs.declared.node.NodeKey.{NodeKey}
use Rattle.ps_types.specs.declared.rows.NodeRow.{NodeRow}
use Rattle.ps_types.specs.Nodes.{is_node}
use Rattle.ps_nodes.specs.Gaps.{empties}

-- the digest of a node's name
abbrev pub name_digest : ℕ → NodeRow → ℕ
name_digest seed row = text_digest seed row.key.name

-- at most one row is of a node
abbrev pub AreOnce : List NodeRow → Type 0
AreOnce rows = (node : NodeKey) → count_by (is_node node) rows ≤ 1

-- no place is empty
abbrev pub AreFull : List (Option NodeRow) → Type 0
AreFull slots = length (standing slots) ≡ length slots

-- the names are marked, the gaps are the empty places, a node has one row, and each place could be a gap
pub record PlacesAreKept (places : Places NodeRow) (named : Table (Option ℕ)) (gaps : Vec ℕ) : Type 0 where
  pub names : named.rows ≡ marked_by (name_digest places.seed) places.rows
  pub empty : gaps.items ≡ empties 0 places.rows
  pub once : AreOnce (standing places.rows)
  pub held : length places.rows ≤ vec_capacity gaps

-- how many more rows are taken without memory
abbrev pub room_of : Places NodeRow → Table (Option ℕ) → Vec ℕ → ℕ
room_of places named gaps = min (min places.spare named.spare) (vec_capacity gaps - length places.rows)
