use Rattle.std.proofs.Common.{sym, ap, ◌∙◌}
use Rattle.std.specs.Prelude.{Option}
use Rattle.ps_types.specs.declared.rows.ResourceRow.{ResourceRow}
use Rattle.ps_types.specs.Resources.{caps_in}
use Rattle.ps_access.specs.Tables.{book_of}
use Rattle.ps_entity.proofs.Answering.{unasked}
use Rattle.ps_entity.proofs.capabilities.changes.Goals as goal

pub returns-in_default : goal.returns-in_default
returns-in_default c = unasked c.args.who.now c.args.node.now c.args.query.now (book_of c.args.tables.now) (ap (λ (o : Option ResourceRow). caps_in o) (sym c.in_default.ensures.row))

pub returns-in-None : goal.returns-in-None
returns-in-None c =
    unasked c.args.who.now c.args.node.now c.args.query.now (book_of c.args.tables.now) (ap (λ (o : Option ResourceRow). caps_in o) (sym c.in-Some.ensures.row) ∙ c.in-None.is)
