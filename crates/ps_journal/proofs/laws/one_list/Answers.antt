use Rattle.ps_journal.proofs.Lists.{one_list}
use Rattle.ps_journal.proofs.laws.one_list.Goals as goal

pub returns : goal.returns
returns c = one_list
