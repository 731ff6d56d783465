use Rattle.ps_record.proofs.EntryLaws as lemmas
use Rattle.ps_record.proofs.laws.one_entry.Goals as goal

pub returns : goal.returns
returns c = lemmas.one_entry
