use Rattle.ps_model.proofs.SomeDamage.{some-damage}
use Rattle.ps_model.proofs.store_laws.list_or_damage.Goals as goal

pub returns : goal.returns
returns c = λ bytes neither. some-damage bytes neither.no_list neither.no_damage
