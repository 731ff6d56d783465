use Rattle.std.proofs.Common.{sym, ◌∙◌}
use Rattle.std.specs.Prelude.{codes}
use Rattle.ps_types.specs.CapString.{feature_of}
use Rattle.ps_types.specs.Elem.{nodes}
use Rattle.ps_types.specs.Namespaces.{info_ns}
use Rattle.ps_forms.proofs.Children.{found, absent, one-more, no-more}
use Rattle.ps_caps.proofs.info.features_of.Goals as goal

pub loop-child-preserved : goal.loop-child-preserved
loop-child-preserved c =
    one-more feature_of c.loop-child.features _ _ _ _ _ _ (found (codes "feature") info_ns (nodes c.loop-child.rest.now) c.in-Some.child.now (nodes c.in-Some.after.now) (sym c.in-Some.ensures.next))
    c.in_ok-push.ensures.ok (c.in_ok-of.ensures.value ∙ c.attr.ensures) c.loop-child.invariant

pub returns : goal.returns
returns c = no-more feature_of c.loop-child.features _ _ (absent (codes "feature") info_ns (nodes c.loop-child.rest.now) (sym c.in_default.ensures.next)) c.loop-child.invariant
