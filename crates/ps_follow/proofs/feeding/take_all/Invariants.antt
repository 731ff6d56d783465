use Rattle.std.proofs.Common.{◌-◌, length}
use Rattle.ps_follow.proofs.Walks.{Walk}
use Rattle.ps_follow.proofs.feeding.take_all.Given as goal

abbrev pub invariant-loop-from : goal.invariant-loop-from
invariant-loop-from g l = Walk l.fn.service.state l.fn.log.items l.bytes l.from l.service.state l.log.items

abbrev pub decreases-loop-from : goal.decreases-loop-from
decreases-loop-from g l = length l.bytes - l.from
