use Rattle.std.proofs.Common.{◌≡◌, map, take}
use Rattle.ps_types.specs.Forms.{value_tree}
use Rattle.ps_forms.proofs.Printed.{trees}
use Rattle.ps_forms.proofs.print.value_kids.Given as goal

abbrev pub invariant-loop-value : goal.invariant-loop-value
invariant-loop-value l = l.kids ≡ trees (map value_tree (take l.value-index l.values))
