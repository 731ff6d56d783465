use Rattle.std.proofs.Common.{◌≡◌, ◌++◌, length}
use Rattle.std.specs.Prelude.{codes}
use Rattle.std.specs.List.{filter_map}
use Rattle.ps_types.specs.Elem.{nodes}
use Rattle.ps_types.specs.Forms.{field_of, fields_of}
use Rattle.ps_types.specs.Namespaces.{data_ns}
use Rattle.ps_forms.proofs.Children.{named}
use Rattle.ps_forms.proofs.read.fields_of.Given as goal

abbrev pub invariant-loop-child : goal.invariant-loop-child
invariant-loop-child l = l.fields ++ filter_map field_of (named (codes "field") data_ns (nodes l.rest)) ≡ fields_of l.elem

abbrev pub decreases-loop-child : goal.decreases-loop-child
decreases-loop-child l = length l.rest
