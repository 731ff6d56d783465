use Rattle.std.proofs.Common.{false, refl, sym, ap, ◌∙◌}
use Rattle.ps_types.specs.Tree.{Tree}
use Rattle.ps_access.specs.Tables.{book_of}
use Rattle.ps_fanout.specs.Changed.{change_inside, is_of_items, is_told}
use Rattle.ps_fanout.specs.Trees.{event_tree}
use Rattle.ps_fanout.proofs.Heard.{node-tells}
use Rattle.ps_fanout.proofs.news.node_news.Goals as goal

pub returns : goal.returns
returns c =
    let change = c.args.change.now in
    let node = c.args.node.now in
    node-tells (book_of c.args.tables.now) (is_of_items change) node (is_told change) (change_inside node change) c.in-Some.config.now c.is_on-is_on.result
    (record {
      node = c.args.node;
      joins = false;
      items = c.is_of_items-items.result;
      above = c.in_ok-above.above;
      config = c.in-Some.config;
      is_on = c.is_on-is_on.result;
      event =
          c.in_ok-event.event;
    })
    (sym c.in-Some.ensures.config) c.is_on-is_on.ensures
    (record {
      node = refl;
      joins = refl;
      items = c.is_of_items-items.ensures;
      above = c.in_ok-above.ensures.above;
      config = refl;
      is_on = refl;
      event = c.in_ok-event.ensures.ok ∙ c.in_ok-event_tree.ensures ∙ ap (λ (t : Tree). event_tree t) c.in_ok-inside.ensures;
    })
