use Rattle.ps_model.proofs.ChangedBounded.{changed-bounded}
use Rattle.ps_model.proofs.access_laws.nodes_stay_bounded.Goals as goal

pub returns-clause-changed : goal.returns-clause-changed
returns-clause-changed c = λ book r moment h. changed-bounded r.ask r moment book h
