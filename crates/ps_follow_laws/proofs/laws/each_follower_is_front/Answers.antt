use Rattle.std.proofs.Common.{[], refl}
use Rattle.ps_follow_laws.proofs.Streaming.{feed-good, streams-front}
use Rattle.ps_follow_laws.proofs.laws.each_follower_is_front.Goals as goal

pub returns-clause-front : goal.returns-clause-front
returns-clause-front c = λ E ok F streams each f. streams-front E ok streams [] F (E, refl) each f

pub returns-clause-good : goal.returns-clause-good
returns-clause-good c = feed-good
