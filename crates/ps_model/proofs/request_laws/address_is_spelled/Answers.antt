use Rattle.ps_model.proofs.LineLaws.{jid-spells, spells-jid}
use Rattle.ps_model.proofs.request_laws.address_is_spelled.Goals as goal

pub returns : goal.returns
returns c = λ text j. (jid-spells text j, spells-jid text j)
