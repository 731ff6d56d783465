use Rattle.ps_store_cases.proofs.BasesHold.{rows-lawful, rows-stand, whole-lawful}
use Rattle.ps_store_cases.proofs.bases.compacted_rows.Goals as goal

pub returns : goal.returns
returns c = record { rows = rows-stand; lawful = whole-lawful; accepted = rows-lawful }
