use Rattle.ps_run_cases.proofs.WorldsHold.{items-differ-holds}
use Rattle.ps_run_cases.proofs.worlds.items_stay_unseen.Goals as goal

pub returns : goal.returns
returns c = items-differ-holds
