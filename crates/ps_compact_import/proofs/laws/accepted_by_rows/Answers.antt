use Rattle.ps_compact_import.proofs.Places.{by-rows, own-key}
use Rattle.ps_compact_import.proofs.laws.accepted_by_rows.Goals as goal

pub returns-clause-rows : goal.returns-clause-rows
returns-clause-rows c = by-rows

pub returns-clause-key : goal.returns-clause-key
returns-clause-key c = own-key
