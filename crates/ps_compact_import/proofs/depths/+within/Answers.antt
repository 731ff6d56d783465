use Rattle.std.proofs.Common.{arith}
use Rattle.std.proofs.lemmas.Bool.Decides.{nat_tests}
use Rattle.ps_compact_import.proofs.Levels.{levels-some}
use Rattle.ps_compact_import.proofs.depths.+within.Goals as goal

pub is_within-returns-then-allowed-eq0 : goal.is_within-returns-then-allowed-eq0
is_within-returns-then-allowed-eq0 t c = grind (arith, nat_tests, levels-some c.args.elem.now)
