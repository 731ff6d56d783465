use Rattle.ps_secrecy_step.proofs.RunLaws.{service-secret, the-core-answers}
use Rattle.ps_secrecy_step.proofs.laws.each_service_is_secret.Goals as goal

pub returns-clause-answers : goal.returns-clause-answers
returns-clause-answers c = the-core-answers

pub returns-clause-runs : goal.returns-clause-runs
returns-clause-runs c = service-secret
