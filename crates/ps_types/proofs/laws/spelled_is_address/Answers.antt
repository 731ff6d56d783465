use Rattle.ps_types.proofs.Lowered.{spelled-is}
use Rattle.ps_types.proofs.laws.spelled_is_address.Goals as goal

pub returns : goal.returns
returns c = spelled-is
