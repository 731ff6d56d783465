use Rattle.ps_model.proofs.SpellingKinds.{spelled-taken}
use Rattle.ps_model.proofs.request_laws.spelled_is_taken.Goals as goal

pub returns : goal.returns
returns c = spelled-taken
