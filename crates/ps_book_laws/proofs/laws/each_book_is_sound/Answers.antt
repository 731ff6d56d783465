use Rattle.ps_book_laws.proofs.Reached.{lawful-sound}
use Rattle.ps_book_laws.proofs.laws.each_book_is_sound.Goals as goal

pub returns : goal.returns
returns c = λ E ok. lawful-sound E ok
