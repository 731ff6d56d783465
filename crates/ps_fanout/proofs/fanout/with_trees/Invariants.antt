use Rattle.std.proofs.Common.{◌≡◌}
use Rattle.ps_fanout.proofs.fanout.with_trees.Given as goal

abbrev pub invariant-loop-told : goal.invariant-loop-told
invariant-loop-told l = l.trees.items ≡ l.yielded
