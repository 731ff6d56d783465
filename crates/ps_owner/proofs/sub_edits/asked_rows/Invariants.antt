use Rattle.std.proofs.Common.{◌≡◌, map, take}
use Rattle.ps_owner.specs.Edits.{asked_sub}
use Rattle.ps_owner.proofs.sub_edits.asked_rows.Given as goal

abbrev pub invariant-loop-row : goal.invariant-loop-row
invariant-loop-row l = l.asked.rows ≡ map (asked_sub l.node) (take l.row-index l.rows)
