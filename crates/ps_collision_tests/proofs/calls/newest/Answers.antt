use Rattle.std.proofs.Common.{rules}
use Rattle.std.specs.Prelude.{filter, nat_eq}
use Rattle.ps_rows.specs.Newest.{newest_of}
use Rattle.ps_rows.proofs.Alike.{all_same_ok}
use Rattle.ps_collision_tests.proofs.Keys.{in_group}
use Rattle.ps_collision_tests.proofs.calls.newest.Goals as goal

pub newest-requires : goal.newest-requires
newest-requires c = record { asks = in_group c.args.group }

pub returns : goal.returns
returns c = all_same_ok _ (λ x y k. search rules) (λ v. v.items) (newest_of c.args.most (filter (λ x. nat_eq c.args.group x.group) c.args.rows.now.rows)) c.newest.result c.newest.ensures.rows
