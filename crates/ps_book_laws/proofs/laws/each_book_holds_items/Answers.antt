use Rattle.ps_book_laws.proofs.Kept.{lawful-kept}
use Rattle.ps_book_laws.proofs.laws.each_book_holds_items.Goals as goal

pub returns : goal.returns
returns c = λ E ok. lawful-kept E ok
