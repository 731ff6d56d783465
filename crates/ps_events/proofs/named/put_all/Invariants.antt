use Rattle.std.proofs.Common.{◌≡◌, ◌||◌, ℕ, take}
use Rattle.ps_nodes.specs.Places.{is_place}
use Rattle.ps_events.proofs.named.put_all.Given as goal

abbrev pub invariant-loop-place : goal.invariant-loop-place
invariant-loop-place l = (at : ℕ) → is_place at l.places.keys ≡ (is_place at l.fn.places.keys || is_place at (take l.place-index l.found))
