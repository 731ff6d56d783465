-- The nodes of a name, at whatever service host or account, in the order of their making.
use Rattle.std.specs.Prelude.{ℕ, Bool, List, bytes_eq, filter, map}
use Rattle.std.specs.List.{enumerate_from}
use Rattle.ps_types.specs.declared.rows.NodeRow.{NodeRow}

-- the node has the name
abbrev pub is_named : List ℕ → NodeRow → Bool
is_named name row = bytes_eq row.key.name name

-- the place that stands beside a row
abbrev pub place_in : ℕ × NodeRow → ℕ
place_in at = at.0

-- the node beside its place has the name
abbrev pub is_named_in : List ℕ → ℕ × NodeRow → Bool
is_named_in name at = is_named name at.1

-- the places of the nodes of the name, counted from 0
abbrev pub places_at : List ℕ → List NodeRow → List ℕ
places_at name rows = map place_in (filter (is_named_in name) (enumerate_from 0 rows))
