use Rattle.std.proofs.Common.{sym, ◌∙◌}
use Rattle.ps_rows.proofs.Any.{any-find}
use Rattle.ps_rows.proofs.rows.Rows.any.Goals as goal

pub returns : goal.returns
returns g c = c.has.ensures ∙ sym (any-find (g.A.Ask.passes c.args.ask.now) c.args.self.now.rows)
