use Rattle.std.proofs.Common.{◌≡◌, map, take}
use Rattle.ps_request.specs.Written.{item_tree}
use Rattle.ps_forms.proofs.Printed.{trees}
use Rattle.ps_request.proofs.rows.item_kids.Given as goal

abbrev pub invariant-loop-item : goal.invariant-loop-item
invariant-loop-item l = l.kids ≡ trees (map item_tree (take l.item-index l.items))
