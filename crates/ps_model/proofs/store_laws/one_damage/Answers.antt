use Rattle.ps_model.proofs.OneAt.{one-at}
use Rattle.ps_model.proofs.store_laws.one_damage.Goals as goal

pub returns : goal.returns
returns c = one-at
