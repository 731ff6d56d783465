use Rattle.ps_book_laws.proofs.Formed.{rows-formed}
use Rattle.ps_book_laws.proofs.laws.each_row_is_well_formed.Goals as goal

pub returns : goal.returns
returns c = λ E ok. rows-formed E ok
