-- The part of a Book that some nodes are: the rows of these nodes, and of their items all but the moments.
use Rattle.std.specs.Prelude.{Bool, List, None, filter, map}
use Rattle.ps_types.specs.declared.node.NodeKey.{NodeKey}
use Rattle.ps_types.specs.declared.rows.AffilRow.{AffilRow}
use Rattle.ps_types.specs.declared.rows.CountRow.{CountRow}
use Rattle.ps_types.specs.declared.rows.ItemRow.{ItemRow}
use Rattle.ps_types.specs.declared.rows.LinkRow.{LinkRow}
use Rattle.ps_types.specs.declared.rows.NodeRow.{NodeRow}
use Rattle.ps_types.specs.declared.rows.SubRow.{SubRow}
use Rattle.ps_model.specs.Book.{Book}

abbrev pub timeless : ItemRow → ItemRow
timeless row = record { node = row.node; id = row.id; publisher = row.publisher; payload = row.payload; moment = None }

-- the Book with these rows
abbrev pub with_rows : Book → List NodeRow → List AffilRow → List SubRow → List ItemRow → List LinkRow → List CountRow → Book
with_rows b nodes affils subs items links counts = record b { nodes = nodes; affils = affils; subs = subs; items = items; links = links; counts = counts }

module _ (mine : NodeKey → Bool) where
  abbrev pub my_nodes : List NodeRow → List NodeRow
  my_nodes rows = filter (λ row. mine row.key) rows

  abbrev pub my_affils : List AffilRow → List AffilRow
  my_affils rows = filter (λ row. mine row.node) rows

  abbrev pub my_subs : List SubRow → List SubRow
  my_subs rows = filter (λ row. mine row.node) rows

  abbrev pub my_items : List ItemRow → List ItemRow
  my_items rows = map timeless (filter (λ row. mine row.node) rows)

  abbrev pub my_counts : List CountRow → List CountRow
  my_counts rows = filter (λ row. mine row.node) rows

  abbrev pub part : Book → Book
  part b = with_rows b (my_nodes b.nodes) (my_affils b.affils) (my_subs b.subs) (my_items b.items) b.links (my_counts b.counts)
