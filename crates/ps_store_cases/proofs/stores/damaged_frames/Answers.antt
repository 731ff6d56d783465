use Rattle.ps_store_cases.proofs.StoresHold.{bad-header, cut-off, too-long, empty-frame}
use Rattle.ps_store_cases.proofs.stores.damaged_frames.Goals as goal

pub returns : goal.returns
returns c = record { header = bad-header; cut = cut-off; past = too-long; empty = empty-frame }
