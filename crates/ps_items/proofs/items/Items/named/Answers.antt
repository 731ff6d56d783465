use Rattle.std.proofs.Common.{◌≡◌, subst, rules}
use Rattle.std.specs.Prelude.{IfOk}
use Rattle.ps_items.specs.Chosen.{items_named}
use Rattle.ps_rows.specs.Newest.{newest_of}
use Rattle.ps_rows.proofs.Alike.{all_same_ok}
use Rattle.ps_items.proofs.Keys.{named_at}
use Rattle.ps_items.proofs.items.Items.named.Goals as goal

pub newest-requires : goal.newest-requires
newest-requires c = record { asks = named_at c.args.node.now c.args.ids.now }

pub returns : goal.returns
returns c = record {
  rows = subst (λ t. IfOk c.newest.result (λ rows. rows.items ≡ newest_of c.args.most (items_named c.args.node.now c.args.ids.now t.rows))) c.self.view_is
      (all_same_ok _ (λ x y k. search rules) (λ v. v.items) (newest_of c.args.most (items_named c.args.node.now c.args.ids.now c.self.inside.rows.rows)) c.newest.result c.newest.ensures.rows);
}
