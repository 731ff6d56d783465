use Rattle.std.proofs.Common.{take}
use Rattle.ps_nodes.specs.Places.{ArePlaces}
use Rattle.ps_events.specs.Wanted.{is_asked_for}
use Rattle.ps_events.proofs.named.places_asked.Given as goal

abbrev pub invariant-loop-feature : goal.invariant-loop-feature
invariant-loop-feature l = ArePlaces (is_asked_for (take l.feature-index l.features)) l.nodes.rows l.places.keys
