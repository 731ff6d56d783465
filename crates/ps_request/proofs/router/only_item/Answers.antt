use Rattle.std.proofs.Common.{ap, ◌∙◌}
use Rattle.std.specs.Prelude.{codes}
use Rattle.ps_types.specs.Elem.{nodes}
use Rattle.ps_types.specs.Namespaces.{roster_ns}
use Rattle.ps_types.specs.Tree.{nodes_of}
use Rattle.ps_request.specs.Only.{only}
use Rattle.ps_forms.proofs.Children.{named}
use Rattle.ps_request.proofs.Children.{only-two, only-one, only-none}
use Rattle.ps_request.proofs.router.only_item.Goals as goal

pub returns-in-Some-next_child : goal.returns-in-Some-next_child
returns-in-Some-next_child c =
    only-two (codes "item") roster_ns (nodes c.as_slice.result.now) (nodes c.in-Some.rest.now) (nodes c.in-Some-next_child.field-0.1.now) c.in-Some.item.now c.in-Some-next_child.field-0.0.now
    c.in-Some.ensures.next c.in-Some-next_child.ensures.next
    ∙ ap (λ n. only (named (codes "item") roster_ns n)) (ap nodes c.as_slice.ensures.value ∙ ap nodes_of c.query.view_is)

pub returns-in-None-next_child : goal.returns-in-None-next_child
returns-in-None-next_child c =
    only-one (codes "item") roster_ns (nodes c.as_slice.result.now) (nodes c.in-Some.rest.now) c.in-Some.item.now c.in-Some.ensures.next c.in-None-next_child.ensures.next
    ∙ ap (λ n. only (named (codes "item") roster_ns n)) (ap nodes c.as_slice.ensures.value ∙ ap nodes_of c.query.view_is)

pub returns-in-None : goal.returns-in-None
returns-in-None c =
    only-none (codes "item") roster_ns (nodes c.as_slice.result.now) c.in-None.ensures.next
    ∙ ap (λ n. only (named (codes "item") roster_ns n)) (ap nodes c.as_slice.ensures.value ∙ ap nodes_of c.query.view_is)
