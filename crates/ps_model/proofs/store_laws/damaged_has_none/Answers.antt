use Rattle.ps_model.proofs.OneAt.{damaged-none}
use Rattle.ps_model.proofs.store_laws.damaged_has_none.Goals as goal

pub returns : goal.returns
returns c = damaged-none
