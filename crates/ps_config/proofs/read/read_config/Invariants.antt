use Rattle.std.proofs.Common.{◌≡◌}
use Rattle.ps_config.proofs.Rows.{from_row}
use Rattle.ps_config.proofs.read.read_config.Given as goal

abbrev pub invariant-loop-i : goal.invariant-loop-i
invariant-loop-i l = from_row l.i l.row-items l.form l.config ≡ from_row 0 l.row-items l.form l.base
