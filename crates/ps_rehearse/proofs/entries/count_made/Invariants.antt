use Rattle.ps_rehearse.proofs.Making.{SoMade}
use Rattle.ps_rehearse.proofs.entries.count_made.Given as goal

abbrev pub invariant-loop-one : goal.invariant-loop-one
invariant-loop-one l = SoMade l.placed l.one-index l.commits l.handed
