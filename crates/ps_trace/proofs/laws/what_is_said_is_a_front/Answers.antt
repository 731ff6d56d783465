use Rattle.ps_trace.proofs.Completing.{is-front}
use Rattle.ps_trace.proofs.laws.what_is_said_is_a_front.Goals as goal

pub returns : goal.returns
returns c = record { front = λ core laws boot list hosts h log some lawful owned. is-front core laws boot some list lawful hosts h log owned }
