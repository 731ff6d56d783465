use Rattle.std.proofs.Common.{rules, ◌≡◌, ap, ◌∙◌}
use Rattle.std.specs.Prelude.{slice_get}
use Rattle.std.specs.List.{list_any}
use Rattle.ps_access.specs.Tables.{book_of}
use Rattle.ps_coll.specs.Children.{children_in}
use Rattle.ps_disco.specs.Held.{AreFound, is_held_at}
use Rattle.ps_disco.proofs.Under.{held-there}
use Rattle.ps_disco.proofs.held.places_of.Goals as goal

pub returns : goal.returns
returns c = λ at.
    let tables = c.args.tables.now in
    let collection = c.args.collection.now in
    let found : AreFound (book_of tables) collection c.in_ok-children.children.items c.in_ok-places.places.keys = search rules in
    let named : c.in_ok-children.children.items ≡ children_in collection tables.links.rows = search rules in
    found at ∙ (ap (list_any (λ node. is_held_at (book_of tables) collection node at)) named ∙ held-there collection tables.links.rows (slice_get tables.nodes.rows at))
