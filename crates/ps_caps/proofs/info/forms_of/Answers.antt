use Rattle.std.proofs.Common.{sym}
use Rattle.std.specs.Prelude.{codes}
use Rattle.ps_types.specs.Forms.{form_of}
use Rattle.ps_types.specs.Elem.{nodes}
use Rattle.ps_types.specs.Namespaces.{data_ns}
use Rattle.ps_forms.proofs.Children.{found, absent, one-kept, none-kept}
use Rattle.ps_caps.proofs.info.forms_of.Goals as goal

pub loop-child-preserved : goal.loop-child-preserved
loop-child-preserved c =
    one-kept form_of c.loop-child.forms _ _ _ _ _ (found (codes "x") data_ns (nodes c.loop-child.rest.now) c.in-Some.child.now (nodes c.in-Some.after.now) (sym c.in-Some.ensures.next))
    c.in_ok-add_form.ensures c.loop-child.invariant

pub returns : goal.returns
returns c = none-kept form_of c.loop-child.forms _ _ (absent (codes "x") data_ns (nodes c.loop-child.rest.now) (sym c.in_default.ensures.next)) c.loop-child.invariant
