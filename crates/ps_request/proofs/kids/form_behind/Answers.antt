use Rattle.std.proofs.Common.{◌≡◌, Option, subst}
use Rattle.std.specs.Prelude.{IfOk}
use Rattle.ps_types.specs.Elem.{nodes}
use Rattle.ps_types.specs.Tree.{Tree}
use Rattle.ps_request.proofs.Children.{form-next}
use Rattle.ps_request.proofs.kids.form_behind.Goals as goal

pub returns-in-Some : goal.returns-in-Some
returns-in-Some c =
    subst (λ (form : Option Tree). IfOk c.form_of_part.result (λ (made : Option Tree). made ≡ form)) (form-next c.args.name.now (nodes c.args.rest.now) _ c.in-Some.ensures.next) c.form_of_part.ensures

pub returns-in-None : goal.returns-in-None
returns-in-None c = form-next c.args.name.now (nodes c.args.rest.now) _ c.in-None.ensures.next
