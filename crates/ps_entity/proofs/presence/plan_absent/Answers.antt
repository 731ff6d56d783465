use Rattle.std.proofs.Common.{ap, ◌∙◌}
use Rattle.std.specs.Prelude.{is_some}
use Rattle.ps_entity.proofs.Resources.{resource-removed}
use Rattle.ps_entity.proofs.Rows.{copied-some}
use Rattle.ps_entity.proofs.presence.plan_absent.Goals as goal

pub returns-clause-commits : goal.returns-clause-commits
returns-clause-commits c = c.is_some.ensures ∙ copied-some c.resource.result ∙ ap is_some c.resource.ensures.row ∙ resource-removed c.args.request.now.from c.args.tables.now.presence.rows
