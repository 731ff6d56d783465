use Rattle.ps_rows.specs.Digests.{text_digest}
use Rattle.ps_rows.specs.Standing.{left}
use Rattle.ps_nodes.specs.Named.{is_named_in, place_in}
use Rattle.ps_nodes.specs.Ranked.{ranked}
use Rattle.ps_nodes.proofs.Listing.{IsListing}
use Rattle.ps_nodes.proofs.Naming.{digest_in}
use Rattle.ps_nodes.proofs.named.places_among.Given as goal

abbrev pub invariant-loop-at : goal.invariant-loop-at
invariant-loop-at l = IsListing (is_named_in l.name) (digest_in l.slots.seed) (text_digest l.slots.seed l.name) place_in l.at (ranked 0 l.slots.rows) l.places.items

abbrev pub decreases-loop-at : goal.decreases-loop-at
decreases-loop-at l = left l.at (ranked 0 l.slots.rows)
