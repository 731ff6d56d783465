use Rattle.std.proofs.Common.{◌∙◌}
use Rattle.ps_hall_flush.proofs.Logs.{steps_of}
use Rattle.ps_hall_flush.proofs.home.ArchiveAnnals.length.Goals as goal

pub returns : goal.returns
returns g c = λ log is. c.steps.ensures ∙ (is.stands.steps ∙ steps_of g.B.Opening.origin log)
