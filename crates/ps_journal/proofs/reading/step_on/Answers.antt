use Rattle.std.proofs.Common.{arith}
use Rattle.ps_journal.proofs.reading.step_on.Goals as goal

pub returns-clause-fits : goal.returns-clause-fits
returns-clause-fits c i = omega (arith, c.type_inv.rest i)
