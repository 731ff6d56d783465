use Rattle.std.proofs.Common.{rules, ◌≡◌, ℕ, true, false, List, ap, sym, subst, ◌∙◌}
use Rattle.std.specs.Prelude.{is_some}
use Rattle.std.specs.BTreeMap.{insert_entry, is_at}
use Rattle.std.specs.List.Sorted.{IsStrictlySortedBy}
use Rattle.std.specs.Map.{keys_of, lookup}
use Rattle.ps_types.specs.Address.{jid_text}
use Rattle.ps_types.specs.declared.jid.Jid.{Jid}
use Rattle.ps_filter.specs.Printed.{printed}
use Rattle.ps_filter.proofs.Places.{by_text, put-absent, put-present}
use Rattle.ps_filter.proofs.sorted.put.Goals as goal

pub returns-then-contains_key : goal.returns-then-contains_key
returns-then-contains_key c = λ whos e.
    let text : c.in_ok-text.text ≡ jid_text c.args.who.now = search rules in
    let ordered = subst (λ es. IsStrictlySortedBy by_text (keys_of es)) e c.len-len.ensures.ordered in
    let found : is_some (lookup (is_at (by_text c.in_ok-text.text)) c.args.found.now.entries) ≡ true = sym c.contains_key.ensures ∙ c.if-contains_key.true in
    let there = subst (λ (x : List ℕ). is_some (lookup (is_at (by_text x)) (printed whos)) ≡ true) text (subst (λ es. is_some (lookup (is_at (by_text c.in_ok-text.text)) es) ≡ true) e found) in
    e ∙ ap printed (sym (put-present c.args.who.now whos ordered there))

pub returns : goal.returns
returns c = λ whos e.
    let text : c.in_ok-text.text ≡ jid_text c.args.who.now = search rules in
    let who : c.in_ok-clone.field-0 ≡ c.args.who.now = search rules in
    let entries : c.insert.new.self.entries ≡ insert_entry by_text c.args.found.now.entries c.in_ok-text.text c.in_ok-clone.field-0 = search rules in
    let missed : is_some (lookup (is_at (by_text c.in_ok-text.text)) c.args.found.now.entries) ≡ false = sym c.contains_key.ensures ∙ c.if-contains_key.false in
    let absent = subst (λ (x : List ℕ). is_some (lookup (is_at (by_text x)) (printed whos)) ≡ false) text (subst (λ es. is_some (lookup (is_at (by_text c.in_ok-text.text)) es) ≡ false) e missed) in
    entries
    ∙ (ap (λ es. insert_entry by_text es c.in_ok-text.text c.in_ok-clone.field-0) e
    ∙ (ap (λ x. insert_entry by_text (printed whos) x c.in_ok-clone.field-0) text
    ∙ (ap (λ w. insert_entry by_text (printed whos) (jid_text c.args.who.now) w) who ∙ put-absent c.args.who.now whos absent)))
