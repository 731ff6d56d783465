use Rattle.ps_store_cases.proofs.StoresHold.{nothing, one-byte, zero-first}
use Rattle.ps_store_cases.proofs.stores.stores_not_begun.Goals as goal

pub returns : goal.returns
returns c = record { nothing = nothing; one = one-byte; others = zero-first }
