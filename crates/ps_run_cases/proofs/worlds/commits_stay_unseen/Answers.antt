use Rattle.ps_run_cases.proofs.WorldsHold.{commits-differ-holds, again-left, again-right}
use Rattle.ps_run_cases.proofs.worlds.commits_stay_unseen.Goals as goal

pub returns : goal.returns
returns c = record { alike = commits-differ-holds; left_again = again-left; right_again = again-right }
