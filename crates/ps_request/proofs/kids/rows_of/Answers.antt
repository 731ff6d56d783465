use Rattle.std.proofs.Common.{sym, refl, ◌∙◌}
use Rattle.ps_types.specs.Elem.{nodes}
use Rattle.ps_types.specs.Namespaces.{owner_ns}
use Rattle.ps_forms.proofs.Children.{found, absent}
use Rattle.ps_request.proofs.Children.{more-rows, bad-row, end-rows}
use Rattle.ps_request.proofs.kids.rows_of.Goals as goal

pub returns-in-None : goal.returns-in-None
returns-in-None c = (
  refl,
  bad-row c.args.name.now c.loop-elem.rows _ _ _ _ (found c.args.name.now owner_ns (nodes c.loop-elem.rest.now) c.in-Some.elem.now (nodes c.in-Some.after.now) (sym c.in-Some.ensures.next))
      (sym c.in-None.is ∙ c.in_ok-row.ensures) c.loop-elem.invariant,
)

pub loop-elem-preserved : goal.loop-elem-preserved
loop-elem-preserved c =
    more-rows c.args.name.now c.loop-elem.rows _ _ _ _ _ _ (found c.args.name.now owner_ns (nodes c.loop-elem.rest.now) c.in-Some.elem.now (nodes c.in-Some.after.now) (sym c.in-Some.ensures.next))
    c.in_ok-push-in-Some-2.ensures.ok (sym c.in-Some-2.is ∙ c.in_ok-row.ensures) c.loop-elem.invariant

pub returns : goal.returns
returns c = end-rows c.args.name.now c.loop-elem.rows _ _ (absent c.args.name.now owner_ns (nodes c.loop-elem.rest.now) (sym c.in_default.ensures.next)) c.loop-elem.invariant
