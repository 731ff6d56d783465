use Rattle.ps_model_cases.proofs.Rows.{base-handed, base-later, base-told, base-unhanded}
use Rattle.ps_model_cases.proofs.stores.compacted_store.Goals as goal

pub returns : goal.returns
returns c = record { unhanded = base-unhanded; handed = base-handed; goes_on = base-told; goes_on_later = base-later }
