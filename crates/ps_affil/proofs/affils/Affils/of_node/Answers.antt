use Rattle.std.proofs.Common.{◌≡◌, subst, rules}
use Rattle.std.specs.Prelude.{IfOk}
use Rattle.ps_types.specs.Affils.{affils_of}
use Rattle.ps_rows.proofs.Alike.{all_same_ok}
use Rattle.ps_affil.proofs.Keys.{at_node}
use Rattle.ps_affil.proofs.affils.Affils.of_node.Goals as goal

pub list-requires : goal.list-requires
list-requires c = record { asks = at_node c.args.node.now }

pub returns : goal.returns
returns c = record {
  rows = subst (λ t. IfOk c.list.result (λ rows. rows.items ≡ affils_of c.args.node.now t.rows)) c.self.view_is
      (all_same_ok _ (λ x y k. search rules) (λ v. v.items) (affils_of c.args.node.now c.self.inside.rows.rows) c.list.result c.list.ensures.rows);
}
