use Rattle.std.proofs.Common.{◌≡◌, map, take}
use Rattle.ps_types.specs.Forms.{field_tree}
use Rattle.ps_forms.proofs.Printed.{trees}
use Rattle.ps_forms.proofs.print.field_kids.Given as goal

abbrev pub invariant-loop-field : goal.invariant-loop-field
invariant-loop-field l = l.kids ≡ trees (map field_tree (take l.field-index l.fields))
