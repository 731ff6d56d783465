use Rattle.std.proofs.Common.{◌≡◌, ◌++◌, length, map}
use Rattle.std.specs.Prelude.{codes}
use Rattle.ps_types.specs.CapString.{feature_of}
use Rattle.ps_types.specs.Elem.{nodes}
use Rattle.ps_types.specs.Namespaces.{info_ns}
use Rattle.ps_types.specs.Shape.{children_of}
use Rattle.ps_forms.proofs.Children.{named}
use Rattle.ps_caps.proofs.info.features_of.Given as goal

abbrev pub invariant-loop-child : goal.invariant-loop-child
invariant-loop-child l = l.features ++ map feature_of (named (codes "feature") info_ns (nodes l.rest)) ≡ map feature_of (children_of (codes "feature") info_ns l.query)

abbrev pub decreases-loop-child : goal.decreases-loop-child
decreases-loop-child l = length l.rest
