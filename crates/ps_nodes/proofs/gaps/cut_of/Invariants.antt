use Rattle.std.proofs.Common.{ℕ, ◌-◌, ◌<◌, ◌≤◌, length, get_or}
use Rattle.ps_nodes.specs.Gaps.{limit}
use Rattle.ps_nodes.proofs.gaps.cut_of.Given as goal

abbrev pub invariant-loop-low : goal.invariant-loop-low
invariant-loop-low l = record {
  order : l.low ≤ l.high;
  within : l.high ≤ length l.gaps;
  before : (i : ℕ) → i < l.low → get_or l.gaps i 0 < limit l.ranked l.bound i;
  after : (i : ℕ) → l.high ≤ i → i < length l.gaps → limit l.ranked l.bound i ≤ get_or l.gaps i 0;
}

abbrev pub decreases-loop-low : goal.decreases-loop-low
decreases-loop-low l = l.high - l.low
