use Rattle.ps_trace.proofs.Completing.{is-complete}
use Rattle.ps_trace.proofs.laws.what_is_said_is_complete.Goals as goal

pub returns : goal.returns
returns c = record {
  complete = λ core laws hands boot list hosts h log front rest some lawful differ split owned all over. is-complete core laws boot some list lawful hands hosts differ h log front rest split owned
      all over;
}
