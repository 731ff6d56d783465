use Rattle.ps_follow_laws.proofs.Having.{feed-has}
use Rattle.ps_follow_laws.proofs.laws.each_feed_has_one.Goals as goal

pub returns : goal.returns
returns c = feed-has
