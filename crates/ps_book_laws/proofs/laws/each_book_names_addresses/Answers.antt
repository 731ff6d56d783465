use Rattle.ps_book_laws.proofs.Addressed.{lawful-addresses}
use Rattle.ps_book_laws.proofs.laws.each_book_names_addresses.Goals as goal

pub returns : goal.returns
returns c = λ E ok. lawful-addresses E ok
