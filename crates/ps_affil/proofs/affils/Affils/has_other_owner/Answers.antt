use Rattle.ps_affil.proofs.Keys.{other_owner}
use Rattle.ps_affil.proofs.affils.Affils.has_other_owner.Goals as goal

pub any-requires : goal.any-requires
any-requires c = record { asks = other_owner c.args.node.now c.args.others.now.rows }
