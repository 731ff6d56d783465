use Rattle.ps_run_cases.proofs.RunsHold.{first-sent, first-recorded, other-sent, other-recorded}
use Rattle.ps_run_cases.proofs.runs.cut_off_notice.Goals as goal

pub returns : goal.returns
returns c = record { first_sent = first-sent; first_recorded = first-recorded; other_sent = other-sent; other_recorded = other-recorded }
