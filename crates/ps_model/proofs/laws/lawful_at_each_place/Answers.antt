use Rattle.ps_model.proofs.TheLaws.{of-places, places-of}
use Rattle.ps_model.proofs.laws.lawful_at_each_place.Goals as goal

pub returns : goal.returns
returns c = record { same = λ E. (places-of E, of-places E) }
