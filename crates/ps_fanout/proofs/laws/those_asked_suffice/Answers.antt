use Rattle.ps_fanout.proofs.Spread.{spread-told}
use Rattle.ps_fanout.proofs.laws.those_asked_suffice.Goals as goal

pub returns : goal.returns
returns c = spread-told
