use Rattle.ps_secrecy_step.proofs.DeedLaws.{deed-secret}
use Rattle.ps_secrecy_step.proofs.laws.each_deed_is_secret.Goals as goal

pub returns : goal.returns
returns c = λ a x y rules rules2. deed-secret a x y rules rules2
