use Rattle.std.proofs.Common.{◌≡◌, map, take}
use Rattle.ps_request.specs.Written.{id_tree}
use Rattle.ps_forms.proofs.Printed.{trees}
use Rattle.ps_request.proofs.rows.id_kids.Given as goal

abbrev pub invariant-loop-id : goal.invariant-loop-id
invariant-loop-id l = l.kids ≡ trees (map id_tree (take l.id-index l.ids))
