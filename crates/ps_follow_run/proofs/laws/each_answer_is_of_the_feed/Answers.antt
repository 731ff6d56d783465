use Rattle.ps_follow_run.proofs.OfTheFeed.{each-of}
use Rattle.ps_follow_run.specs.Following.{IsReadToEnd}
use Rattle.ps_follow_run.proofs.laws.each_answer_is_of_the_feed.Goals as goal

pub returns : goal.returns
returns c = λ E feed now answered ok of are. each-of E ok feed of (IsReadToEnd now) answered are
