use Rattle.ps_journal.proofs.Begins.{unbegun_spells}
use Rattle.ps_journal.proofs.laws.unbegun_spells.Goals as goal

pub returns : goal.returns
returns c = unbegun_spells
