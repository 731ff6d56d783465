use Rattle.ps_model.proofs.NumberLaws.{numbers-rise}
use Rattle.ps_model.proofs.laws.numbers_rise.Goals as goal

pub returns : goal.returns
returns c = numbers-rise
