use Rattle.ps_store_cases.proofs.StoresHold.{no-entry, gone-first, handed-none}
use Rattle.ps_store_cases.proofs.stores.damaged_entries.Goals as goal

pub returns : goal.returns
returns c = record { unspelled = no-entry; gone_first = gone-first; handed_none = handed-none }
