use Rattle.std.proofs.Common.{◌-◌, length}
use Rattle.ps_hall_state.specs.Steps.{KeepsNumbers}
use Rattle.ps_hall.specs.Ending.{RecordsFirst}
use Rattle.ps_hall.proofs.ending.record_or_end.Given as goal

abbrev pub invariant-others : goal.invariant-others
invariant-others g l = KeepsNumbers l.fn.state l.state × RecordsFirst l.fn.state l.state l.hand.items l.done

abbrev pub decreases-others : goal.decreases-others
decreases-others g l = length l.hand.items - l.done
