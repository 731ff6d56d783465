use Rattle.std.proofs.Common.{sym, ◌∙◌}
use Rattle.std.specs.Prelude.{codes}
use Rattle.ps_types.specs.CapString.{identity_of}
use Rattle.ps_types.specs.Elem.{nodes}
use Rattle.ps_types.specs.Namespaces.{info_ns}
use Rattle.ps_forms.proofs.Children.{found, absent, one-more, no-more}
use Rattle.ps_caps.proofs.info.identities_of.Goals as goal

pub loop-child-preserved : goal.loop-child-preserved
loop-child-preserved c =
    one-more identity_of c.loop-child.identities _ _ _ _ _ _ (found (codes "identity") info_ns (nodes c.loop-child.rest.now) c.in-Some.child.now (nodes c.in-Some.after.now)
    (sym c.in-Some.ensures.next))
    c.in_ok-push.ensures.ok c.in_ok-identity_of.ensures c.loop-child.invariant

pub returns : goal.returns
returns c = no-more identity_of c.loop-child.identities _ _ (absent (codes "identity") info_ns (nodes c.loop-child.rest.now) (sym c.in_default.ensures.next)) c.loop-child.invariant
