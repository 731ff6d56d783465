use Rattle.ps_run_cases.proofs.ManyHold.{all-holds, half-holds}
use Rattle.ps_run_cases.proofs.many.forty_are_told.Goals as goal

pub returns : goal.returns
returns c = record { all = all-holds; half = half-holds }
