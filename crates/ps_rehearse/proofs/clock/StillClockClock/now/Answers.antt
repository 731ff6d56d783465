use Rattle.std.proofs.Common.{Some, ap, arith}
use Rattle.std.specs.Prelude.{◌-◌, ◌^◌, ◌≤◌}
use Rattle.ps_rehearse.proofs.Clocks.{zeros-next}
use Rattle.ps_rehearse.proofs.clock.StillClockClock.now.Goals as goal

pub returns-clause-told : goal.returns-clause-told
returns-clause-told c = ap Some (zeros-next c.args.self.now.asked c.saturating_add-self.result c.saturating_add-self.ensures (omega arith))
