use Rattle.std.proofs.Common.{not, ap, ◌∙◌}
use Rattle.std.specs.Prelude.{is_some}
use Rattle.ps_entity.proofs.Rows.{copied-some}
use Rattle.ps_entity.proofs.SubRows.{sub-removed, sub-found, sub-absent}
use Rattle.ps_entity.proofs.change.changes.Goals as goal

pub returns-in-Nothing : goal.returns-in-Nothing
returns-in-Nothing c =
    c.is_some.ensures ∙ copied-some c.row_of-row.result ∙ ap is_some c.row_of-row.ensures.row
    ∙ sub-removed c.args.node.now c.args.who.now c.args.state c.args.options c.args.tables.now.subs.rows c.in-Nothing.is

pub returns-in-Some : goal.returns-in-Some
returns-in-Some c =
    ap not c.has_them.ensures ∙ sub-found c.args.node.now c.args.who.now c.args.state c.args.options c.args.tables.now.subs.rows c.in-Some.row.now c.in_default.not-Nothing c.in-Some.ensures.row

pub returns-in-None : goal.returns-in-None
returns-in-None c = sub-absent c.args.node.now c.args.who.now c.args.state c.args.options c.args.tables.now.subs.rows c.in_default.not-Nothing c.in-None.ensures.row
