use Rattle.ps_sink_laws.proofs.OneLine.{given-lines}
use Rattle.ps_sink_laws.proofs.Telling.{given-apart}
use Rattle.ps_sink_laws.proofs.laws.each_sink_is_told_apart.Goals as goal

pub returns-clause-apart : goal.returns-clause-apart
returns-clause-apart c = λ E ws rest are clean. given-apart E ws are rest clean

pub returns-clause-lines : goal.returns-clause-lines
returns-clause-lines c = λ E ws ok are. given-lines E ok ws are
