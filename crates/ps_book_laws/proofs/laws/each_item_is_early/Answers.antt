use Rattle.ps_book_laws.proofs.Addressed.{lawful-early}
use Rattle.ps_book_laws.proofs.laws.each_item_is_early.Goals as goal

pub returns : goal.returns
returns c = λ E ok own. lawful-early E ok own
