use Rattle.ps_run_cases.proofs.WorldsHold.{evictions-differ-holds}
use Rattle.ps_run_cases.proofs.worlds.evictions_stay_unseen.Goals as goal

pub returns : goal.returns
returns c = evictions-differ-holds
