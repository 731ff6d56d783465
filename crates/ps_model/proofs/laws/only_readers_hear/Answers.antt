use Rattle.ps_model.proofs.ReaderLaws.{given-reads}
use Rattle.ps_model.proofs.laws.only_readers_hear.Goals as goal

pub returns : goal.returns
returns c = given-reads
