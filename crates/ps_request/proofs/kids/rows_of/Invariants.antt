use Rattle.std.proofs.Common.{◌≡◌, length}
use Rattle.ps_types.specs.Elem.{nodes}
use Rattle.ps_types.specs.Namespaces.{owner_ns}
use Rattle.ps_types.specs.Shape.{children_of}
use Rattle.ps_model.specs.Grammar.{rows_in}
use Rattle.ps_forms.proofs.Children.{named}
use Rattle.ps_request.proofs.Children.{behind}
use Rattle.ps_request.proofs.kids.rows_of.Given as goal

abbrev pub invariant-loop-elem : goal.invariant-loop-elem
invariant-loop-elem l = behind l.rows (rows_in l.name (named l.name owner_ns (nodes l.rest))) ≡ rows_in l.name (children_of l.name owner_ns l.part)

abbrev pub decreases-loop-elem : goal.decreases-loop-elem
decreases-loop-elem l = length l.rest
