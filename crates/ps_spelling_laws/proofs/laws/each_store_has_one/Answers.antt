use Rattle.ps_spelling_laws.proofs.Stores.{list-or-damage}
use Rattle.ps_spelling_laws.proofs.laws.each_store_has_one.Goals as goal

pub returns : goal.returns
returns c = list-or-damage
