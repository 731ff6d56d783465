use Rattle.ps_follow_laws.proofs.Ending.{feeds-one}
use Rattle.ps_follow_laws.proofs.laws.each_feed_is_one.Goals as goal

pub returns : goal.returns
returns c = feeds-one
