use Rattle.std.proofs.Common.{◌≡◌, take}
use Rattle.std.specs.Prelude.{filter}
use Rattle.ps_events.specs.Wanted.{is_new}
use Rattle.ps_events.proofs.wanted.new_features.Given as goal

abbrev pub invariant-loop-feature : goal.invariant-loop-feature
invariant-loop-feature l = l.found.items ≡ filter (is_new l.old) (take l.feature-index l.new)
