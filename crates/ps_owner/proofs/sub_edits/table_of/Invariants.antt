use Rattle.std.proofs.Common.{◌≡◌, take}
use Rattle.ps_owner.proofs.sub_edits.table_of.Given as goal

abbrev pub invariant-loop-row : goal.invariant-loop-row
invariant-loop-row l = l.table.rows ≡ take l.row-index l.rows
