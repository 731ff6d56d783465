use Rattle.std.proofs.Common.{List, ap, ◌++◌, ◌∙◌}
use Rattle.ps_types.specs.declared.jid.Jid.{Jid}
use Rattle.ps_types.specs.declared.rows.RosterRow.{RosterRow}
use Rattle.ps_audit.specs.Listed.{contact_whos}
use Rattle.ps_audit.proofs.Adding.{all-told, one-more, slot-one, slot_whos, slots-split}
use Rattle.ps_audit.proofs.knowing.add_contacts.Goals as goal

pub rows-preserved : goal.rows-preserved
rows-preserved c =
    let account = c.args.account.now in
    one-more (slot_whos account) (slots-split account) c.places-slot-items.result.now c.rows.slot-index c.slot-item.result c.args.whos.now.items c.rows.whos.items
    c.add_contact.new.whos.items c.rows-test.true c.slot-item.is c.rows.invariant
    (c.in_ok-add_contact.ensures ∙ ap (λ (js : List Jid). c.rows.whos.items ++ js) (slot-one account c.slot-item.result))

pub returns : goal.returns
returns c =
    let account = c.args.account.now in
    all-told (slot_whos account) (slots-split account) c.places-slot-items.result.now c.rows.slot-index c.args.whos.now.items c.rows.whos.items c.rows-test.false c.rows.invariant
    ∙ ap (λ (rs : List RosterRow). c.args.whos.now.items ++ contact_whos account rs) c.places-slot-items.ensures.rows
