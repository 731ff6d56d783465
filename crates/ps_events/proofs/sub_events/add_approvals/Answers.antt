use Rattle.std.proofs.Common.{◌≡◌, List, refl, subst, ◌∙◌}
use Rattle.std.specs.Prelude.{OnOk}
use Rattle.ps_types.specs.declared.event.Event.{Event}
use Rattle.ps_access.specs.Tables.{book_of}
use Rattle.ps_events.proofs.Asked.{asked-all}
use Rattle.ps_events.proofs.sub_events.add_approvals.Goals as goal

pub returns : goal.returns
returns c =
    let after = book_of c.args.after.now in
    subst (λ (l : List Event). OnOk c.add_others.result (c.add_others.new.told.items ≡ l))
    (asked-all c.args.node.now c.args.who.now after c.as_slice.result.now c.args.told.now.items c.add_account.new.told.items _ (c.as_slice.ensures.value ∙ c.in_ok-rows.ensures.rows)
    c.in_ok-add_account.ensures refl)
    c.add_others.ensures
