use Rattle.std.proofs.Common.{◌==◌, length, ap, ◌∙◌}
use Rattle.std.specs.Prelude.{is_none}
use Rattle.ps_types.specs.Elem.{nodes}
use Rattle.ps_types.specs.Shape.{trees_in}
use Rattle.ps_types.specs.Tree.{nodes_of}
use Rattle.ps_request.proofs.Children.{is_none-mapped, one-only, none-only}
use Rattle.ps_request.proofs.kids.has_one_tree.Goals as goal

pub returns-in-Some : goal.returns-in-Some
returns-in-Some c =
    is_none-mapped _ c.next_tree-in-Some.result c.is_none.result c.is_none.ensures ∙ ap is_none c.next_tree-in-Some.ensures.next
    ∙ one-only (nodes c.as_slice.result.now) (nodes c.in-Some.rest.now) c.in-Some.field-0-0.now c.in-Some.ensures.next
    ∙ ap (λ n. length (trees_in n) == 1) (ap nodes c.as_slice.ensures.value ∙ ap nodes_of c.elem.view_is)

pub returns-in-None : goal.returns-in-None
returns-in-None c =
    none-only (nodes c.as_slice.result.now) c.in-None.ensures.next ∙ ap (λ n. length (trees_in n) == 1) (ap nodes c.as_slice.ensures.value ∙ ap nodes_of c.elem.view_is)
