use Rattle.ps_follow_laws.proofs.Ending.{pieces-keep}
use Rattle.ps_follow_laws.proofs.Piecewise.{goes-on, stop-stays}
use Rattle.ps_follow_laws.proofs.laws.each_piece_goes_on.Goals as goal

pub returns-clause-goes_on : goal.returns-clause-goes_on
returns-clause-goes_on c = goes-on

pub returns-clause-stays : goal.returns-clause-stays
returns-clause-stays c = stop-stays

pub returns-clause-keeps : goal.returns-clause-keeps
returns-clause-keeps c = pieces-keep
