use Rattle.std.proofs.Common.{◌≡◌, length}
use Rattle.ps_base.specs.Rows.{keep_newest}
use Rattle.ps_mirror.specs.Copy.{each_one}
use Rattle.ps_mirror.proofs.mirror.keep.Given as goal

-- those that are to stay are there
abbrev pub invariant-loop-items : goal.invariant-loop-items
invariant-loop-items l = keep_newest each_one l.max l.items.items ≡ keep_newest each_one l.max l.fn.items.items

abbrev pub decreases-loop-items : goal.decreases-loop-items
decreases-loop-items l = length l.items.items
