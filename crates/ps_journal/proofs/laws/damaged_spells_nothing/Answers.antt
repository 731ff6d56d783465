use Rattle.ps_journal.proofs.Damage.{damaged_spells_nothing}
use Rattle.ps_journal.proofs.laws.damaged_spells_nothing.Goals as goal

pub returns : goal.returns
returns c = damaged_spells_nothing
