use Rattle.std.proofs.Common.{◌≡◌, subst, rules}
use Rattle.std.specs.Prelude.{IfOk}
use Rattle.ps_types.specs.Items.{items_of}
use Rattle.ps_rows.specs.Newest.{newest_of}
use Rattle.ps_rows.proofs.Alike.{all_same_ok}
use Rattle.ps_items.proofs.Keys.{at_node}
use Rattle.ps_items.proofs.items.Items.newest.Goals as goal

pub newest-requires : goal.newest-requires
newest-requires c = record { asks = at_node c.args.node.now }

pub returns : goal.returns
returns c = record {
  rows = subst (λ t. IfOk c.newest.result (λ rows. rows.items ≡ newest_of c.args.most (items_of c.args.node.now t.rows))) c.self.view_is
      (all_same_ok _ (λ x y k. search rules) (λ v. v.items) (newest_of c.args.most (items_of c.args.node.now c.self.inside.rows.rows)) c.newest.result c.newest.ensures.rows);
}
