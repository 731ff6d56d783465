use Rattle.std.proofs.Common.{rules}
use Rattle.std.specs.Prelude.{filter, nat_eq}
use Rattle.ps_rows.proofs.Alike.{all_same_ok}
use Rattle.ps_collision_tests.proofs.Keys.{in_group}
use Rattle.ps_collision_tests.proofs.calls.list.Goals as goal

pub list-requires : goal.list-requires
list-requires c = record { asks = in_group c.args.group }

pub returns : goal.returns
returns c = all_same_ok _ (λ x y k. search rules) (λ v. v.items) (filter (λ x. nat_eq c.args.group x.group) c.args.rows.now.rows) c.list.result c.list.ensures.rows
