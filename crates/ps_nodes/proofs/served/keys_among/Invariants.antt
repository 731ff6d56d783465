use Rattle.ps_rows.specs.declared.index.Index.TheVariants.{Bare}
use Rattle.ps_rows.specs.Digests.{bare_digest}
use Rattle.ps_rows.specs.RowKeys.{node_by}
use Rattle.ps_rows.specs.Standing.{left}
use Rattle.ps_types.specs.Nodes.{is_node_of}
use Rattle.ps_nodes.specs.Served.{key_in}
use Rattle.ps_nodes.proofs.Listing.{IsListing}
use Rattle.ps_nodes.proofs.served.keys_among.Given as goal

abbrev pub invariant-loop-at : goal.invariant-loop-at
invariant-loop-at l = IsListing (is_node_of l.service) (node_by l.slots.seed Bare) (bare_digest l.slots.seed l.service) key_in l.at l.slots.rows l.keys.items

abbrev pub decreases-loop-at : goal.decreases-loop-at
decreases-loop-at l = left l.at l.slots.rows
