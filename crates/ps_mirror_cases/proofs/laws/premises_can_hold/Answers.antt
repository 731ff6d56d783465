use Rattle.ps_mirror_cases.proofs.Holds.{case-holds}
use Rattle.ps_mirror_cases.proofs.laws.premises_can_hold.Goals as goal

pub returns : goal.returns
returns c = case-holds
