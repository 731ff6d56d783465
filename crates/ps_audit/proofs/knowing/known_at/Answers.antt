use Rattle.std.proofs.Common.{◌≡◌, List, [], ◌∷◌, ◌++◌, ap, sym, ◌∙◌, rules}
use Rattle.ps_access.specs.Tables.{book_of}
use Rattle.ps_nodes.specs.NodeRows.{row_seen}
use Rattle.ps_types.specs.declared.jid.Jid.{Jid}
use Rattle.ps_audit_laws.specs.Readers.{own_account}
use Rattle.ps_audit.proofs.Adding.{known-is, own-none, own-some}
use Rattle.ps_audit.proofs.knowing.known_at.Goals as goal
use Rattle.ps_audit.proofs.knowing.known_at.Goals.{then-is_account_address+in_ok-clone+in_ok-push, else-is_account_address}

pub returns : goal.returns
returns c =
    let row = row_seen c.args.row.now in
    let own : c.if-is_account_address.whos.items ≡ own_account row = elim c.if-is_account_address.branch [
      | then-is_account_address+in_ok-clone+in_ok-push w ↦
          let cloned : w.in_ok-clone.field-0 ≡ row.key.service = search rules in
          ap (λ v. v.items) w.whos-is ∙ w.in_ok-push.ensures.items ∙ ap (λ (js : List Jid). js ++ w.in_ok-clone.field-0 ∷ []) c.new-whos.ensures.items ∙ ap (λ (j : Jid). j ∷ []) cloned
          ∙ sym (own-some row (sym c.is_account_address.ensures.account ∙ w.if-is_account_address.true))
      | else-is_account_address w ↦
          ap (λ v. v.items) w.whos-is ∙ c.new-whos.ensures.items ∙ sym (own-none row (sym c.is_account_address.ensures.account ∙ w.if-is_account_address.false))
    ] in
    known-is (book_of c.args.tables.now) row c.if-is_account_address.whos.items c.add_affiliated.new.whos.items c.add_subscribers.new.whos.items c.add_contacts.new.whos.items
    c.deref.result.now c.deref-2.result.now c.account_of.result.now own
    (c.deref.ensures.value ∙ c.in_ok-of_node.ensures.rows) (c.deref-2.ensures.value ∙ c.in_ok-of_node-2.ensures.rows) c.account_of.ensures
    c.in_ok-add_affiliated.ensures c.in_ok-add_subscribers.ensures c.in_ok-add_contacts.ensures
