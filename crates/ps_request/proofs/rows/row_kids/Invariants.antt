use Rattle.std.proofs.Common.{◌≡◌, map, take}
use Rattle.ps_request.specs.Written.{row_tree}
use Rattle.ps_forms.proofs.Printed.{trees}
use Rattle.ps_request.proofs.rows.row_kids.Given as goal

abbrev pub invariant-loop-row : goal.invariant-loop-row
invariant-loop-row l = l.kids ≡ trees (map (row_tree l.name) (take l.row-index l.rows))
