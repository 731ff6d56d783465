use Rattle.ps_model.proofs.SpellingKinds.{one-request}
use Rattle.ps_model.proofs.request_laws.one_request.Goals as goal

pub returns : goal.returns
returns c = one-request
