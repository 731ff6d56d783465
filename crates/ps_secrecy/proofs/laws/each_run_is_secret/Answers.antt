use Rattle.ps_secrecy.proofs.Secret.{run-secret}
use Rattle.ps_secrecy.proofs.laws.each_run_is_secret.Goals as goal

pub returns : goal.returns
returns c = λ core answers S a bare service E xs ys shut pairs dx dy. run-secret core answers S a bare service E xs ys shut pairs dx dy
