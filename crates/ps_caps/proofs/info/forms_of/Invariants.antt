use Rattle.std.proofs.Common.{◌≡◌, ◌++◌, length}
use Rattle.std.specs.Prelude.{codes}
use Rattle.std.specs.List.{filter_map}
use Rattle.ps_types.specs.Forms.{form_of}
use Rattle.ps_types.specs.Elem.{nodes}
use Rattle.ps_types.specs.Namespaces.{data_ns}
use Rattle.ps_types.specs.Shape.{children_of}
use Rattle.ps_forms.proofs.Children.{named}
use Rattle.ps_caps.proofs.info.forms_of.Given as goal

abbrev pub invariant-loop-child : goal.invariant-loop-child
invariant-loop-child l = l.forms ++ filter_map form_of (named (codes "x") data_ns (nodes l.rest)) ≡ filter_map form_of (children_of (codes "x") data_ns l.query)

abbrev pub decreases-loop-child : goal.decreases-loop-child
decreases-loop-child l = length l.rest
