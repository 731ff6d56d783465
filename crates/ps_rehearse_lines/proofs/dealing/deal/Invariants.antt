use Rattle.ps_rehearse_lines.specs.Dealing.{AreDealt}
use Rattle.ps_rehearse_lines.proofs.dealing.deal.Given as goal

abbrev pub invariant-loop-k : goal.invariant-loop-k
invariant-loop-k l = AreDealt l.seed l.k l.dealt
