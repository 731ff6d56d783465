use Rattle.ps_store_cases.proofs.StoresHold.{not-in-one, opens}
use Rattle.ps_store_cases.proofs.stores.moments_in_version_2.Goals as goal

pub returns : goal.returns
returns c = record { first = not-in-one; second = opens }
