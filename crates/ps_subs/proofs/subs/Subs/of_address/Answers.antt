use Rattle.std.proofs.Common.{◌≡◌, subst, rules}
use Rattle.std.specs.Prelude.{IfOk}
use Rattle.ps_types.specs.Subs.{subs_held}
use Rattle.ps_rows.proofs.Alike.{all_same_ok}
use Rattle.ps_subs.proofs.Keys.{held}
use Rattle.ps_subs.proofs.subs.Subs.of_address.Goals as goal

pub list-requires : goal.list-requires
list-requires c = record { asks = held c.args.who.now }

pub returns : goal.returns
returns c = record {
  rows = subst (λ t. IfOk c.list.result (λ rows. rows.items ≡ subs_held c.args.who.now t.rows)) c.self.view_is
      (all_same_ok _ (λ x y k. search rules) (λ v. v.items) (subs_held c.args.who.now c.self.inside.rows.rows) c.list.result c.list.ensures.rows);
}
