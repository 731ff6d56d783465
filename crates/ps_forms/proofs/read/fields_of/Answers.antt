use Rattle.std.proofs.Common.{sym}
use Rattle.std.specs.Prelude.{codes}
use Rattle.ps_types.specs.Elem.{nodes}
use Rattle.ps_types.specs.Forms.{field_of}
use Rattle.ps_types.specs.Namespaces.{data_ns}
use Rattle.ps_forms.proofs.Children.{found, absent, one-kept, none-kept}
use Rattle.ps_forms.proofs.read.fields_of.Goals as goal

pub loop-child-preserved : goal.loop-child-preserved
loop-child-preserved c =
    one-kept field_of c.loop-child.fields _ _ _ _ _ (found (codes "field") data_ns (nodes c.loop-child.rest.now) c.in-Some.child.now (nodes c.in-Some.after.now) (sym c.in-Some.ensures.next))
    c.in_ok-add_field.ensures.ok c.loop-child.invariant

pub returns : goal.returns
returns c = none-kept field_of c.loop-child.fields _ _ (absent (codes "field") data_ns (nodes c.loop-child.rest.now) (sym c.in_default.ensures.next)) c.loop-child.invariant
