use Rattle.ps_journal.proofs.Damage.{one_damage}
use Rattle.ps_journal.proofs.laws.one_damage.Goals as goal

pub returns : goal.returns
returns c = λ bytes at later before others p q. one_damage bytes at later before others p q
