use Rattle.ps_store_cases.proofs.BasesHold.{serves-on}
use Rattle.ps_store_cases.proofs.bases.rows_serve_on.Goals as goal

pub returns : goal.returns
returns c = serves-on
