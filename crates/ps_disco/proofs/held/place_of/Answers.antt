use Rattle.std.proofs.Common.{sym, ◌∙◌}
use Rattle.std.specs.Prelude.{false, slice_get}
use Rattle.ps_types.specs.Links.{is_under}
use Rattle.ps_nodes.specs.NodeRows.{is_there}
use Rattle.ps_disco.proofs.Steps.{both_true, none_true, place-there}
use Rattle.ps_disco.proofs.held.place_of.Goals as goal

pub returns-then-is_under : goal.returns-then-is_under
returns-then-is_under c = λ at.
    let child = c.args.child.now in
    let nodes = c.args.tables.now.nodes.rows in
    place-there child nodes c.place.result c.place.ensures.here c.place.ensures.alone at
    ∙ both_true (is_there child (slice_get nodes at)) (is_under child c.args.collection.now false c.args.tables.now.links.rows) (sym c.is_under.ensures.under ∙ c.if-is_under.true)

pub returns-else-is_under : goal.returns-else-is_under
returns-else-is_under c = λ at.
    none_true (is_there c.args.child.now (slice_get c.args.tables.now.nodes.rows at)) (is_under c.args.child.now c.args.collection.now false c.args.tables.now.links.rows)
    (sym c.is_under.ensures.under ∙ c.if-is_under.false)
