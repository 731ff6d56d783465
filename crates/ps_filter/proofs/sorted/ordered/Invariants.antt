use Rattle.std.proofs.Common.{◌≡◌, ◌≤◌, drop, length, map}
use Rattle.ps_model.specs.Sorted.{sorted}
use Rattle.ps_filter.specs.Printed.{printed}
use Rattle.ps_filter.proofs.sorted.ordered.Given as goal

abbrev pub invariant-loop-at : goal.invariant-loop-at
invariant-loop-at l = record {
  sorted : l.found.entries ≡ printed (sorted (map (λ want. want.who) (drop l.at l.wants)));
  within : l.at ≤ length l.wants;
}

abbrev pub decreases-loop-at : goal.decreases-loop-at
decreases-loop-at l = l.at
