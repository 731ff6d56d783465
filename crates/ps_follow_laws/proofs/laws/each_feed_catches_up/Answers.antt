use Rattle.ps_follow_laws.proofs.Catching.{catches-up}
use Rattle.ps_follow_laws.proofs.laws.each_feed_catches_up.Goals as goal

pub returns : goal.returns
returns c = λ E F from ok is front le. catches-up E ok F from is front le
