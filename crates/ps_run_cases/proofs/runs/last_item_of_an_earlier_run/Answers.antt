use Rattle.ps_run_cases.proofs.RunsHold.{unstamped-holds, stamped-holds}
use Rattle.ps_run_cases.proofs.runs.last_item_of_an_earlier_run.Goals as goal

pub returns : goal.returns
returns c = record { unstamped = unstamped-holds; stamped = stamped-holds }
