use Rattle.ps_store_cases.proofs.StoresHold.{one-boot}
use Rattle.ps_store_cases.proofs.stores.one_boot_store.Goals as goal

pub returns : goal.returns
returns c = one-boot
