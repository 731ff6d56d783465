use Rattle.std.proofs.Common.{◌≡◌, subst, rules}
use Rattle.std.specs.Prelude.{IfOk}
use Rattle.ps_rows.proofs.Alike.{all_same_ok}
use Rattle.ps_rows.specs.Around.{own_and_last}
use Rattle.ps_subs.specs.Among.{is_among}
use Rattle.ps_subs.proofs.Keys.{among}
use Rattle.ps_subs.proofs.subs.Subs.concerned.Goals as goal

pub list_around-requires : goal.list_around-requires
list_around-requires c = record { asks = among c.args.node.now c.args.others.now.rows }

pub returns : goal.returns
returns c =
    let own = is_among c.args.node.now c.args.others.now.rows in
    record {
      rows = subst (λ t. IfOk c.list_around.result (λ rows. rows.items ≡ own_and_last own t.rows)) c.self.view_is
          (all_same_ok _ (λ x y k. search rules) (λ v. v.items) (own_and_last own c.self.inside.rows.rows) c.list_around.result c.list_around.ensures.rows);
    }
