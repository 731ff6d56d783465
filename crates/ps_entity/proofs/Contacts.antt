-- When two contacts are the same, and what setting one changes.
use Rattle.std.proofs.Common.{◌≡◌, ℕ, Bool, true, false, not, ◌&&◌, List, [], ◌∷◌, Some, None, length, refl, sym, ap, ap₂, ◌∙◌, arith}
use Rattle.std.specs.Prelude.{◌==◌, is_some}
use Rattle.std.specs.Cmp.Lexicographic.{pointwise, pointwise_decides, bytes_decides}
use Rattle.std.specs.Str.{bytes_eq}
use Rattle.std.proofs.lemmas.Bool.Decides.{nat_tests}
use Rattle.ps_types.specs.declared.jid.Jid.{Jid}
use Rattle.ps_types.specs.declared.rows.RosterRow.{RosterRow}
use Rattle.ps_types.specs.declared.rows.RosterState.{RosterState}
use Rattle.ps_types.specs.declared.rows.RosterState.TheVariants as contact
use Rattle.ps_types.specs.contracts.rows.RosterRowPartialEq.TheImpl as row
use Rattle.ps_types.specs.contracts.rows.RosterStatePartialEq.TheImpl as state
use Rattle.ps_types.specs.Address.{bare}
use Rattle.ps_types.specs.Rosters.{is_contact_of, contact_at, roster_with, roster_without}
use Rattle.ps_types.specs.Same.{same_jid, same_bare}
use Rattle.ps_types.proofs.Same.{same_jid-Decides}
use Rattle.ps_model.specs.SameRows.{same_rosters}
use Rattle.ps_entity.specs.Contacts.{is_contact}
use Rattle.ps_entity.proofs.Rows.{put-changes, put-adds, removal-changes, find-passes, all_same}

same_contact-parts : (a b : RosterRow) → row.eq-value.it a b ≡
    (same_jid a.account b.account && (same_jid a.contact b.contact && (state.eq-value.it a.state b.state && pointwise bytes_eq a.groups b.groups)))
unfolding same_jid
same_contact-parts a b = refl

all_true : (a b c d : Bool) → a ≡ true → b ≡ true → c ≡ true → d ≡ true → (a && (b && (c && d))) ≡ true
all_true a b c d p q r s = rw (p, q, r, s) refl

state_itself : (s : RosterState) → state.eq-value.it s s ≡ true
state_itself contact.Nothing = refl
state_itself contact.To = refl
state_itself contact.From = refl
state_itself contact.Both = refl

pub texts_itself : (texts : List (List ℕ)) → pointwise bytes_eq texts texts ≡ true
texts_itself texts = (pointwise_decides bytes_decides texts texts).1 refl

same_contact-itself : (a : RosterRow) → row.eq-value.it a a ≡ true
same_contact-itself a =
    same_contact-parts a a ∙ all_true (same_jid a.account a.account) (same_jid a.contact a.contact) (state.eq-value.it a.state a.state) (pointwise bytes_eq a.groups a.groups)
    ((same_jid-Decides a.account a.account).1 refl) ((same_jid-Decides a.contact a.contact).1 refl) (state_itself a.state) (texts_itself a.groups)

abbrev new_contact : Jid → Jid → RosterState → List (List ℕ) → RosterRow
new_contact who other s groups = record { account = bare who; contact = bare other; state = s; groups = groups }

empty-test : (text : List ℕ) → bytes_eq [] text ≡ (length text == 0)
empty-test [] = refl
empty-test (x ∷ text) = grind (arith, nat_tests)

bare_parts : (a b c d e f g : Bool) → ((a && b) && (c && d)) ≡ true → ((a && (b && e)) && ((c && (d && f)) && g)) ≡ (e && (f && g))
bare_parts true true true true e f g h = refl
bare_parts true true true false e f g h = absurd (cc)
bare_parts true true false d e f g h = absurd (cc)
bare_parts true false c d e f g h = absurd (cc)
bare_parts false b c d e f g h = absurd (cc)

-- the contact that is there already has the same addresses, but for their resources
found_same : (who other : Jid) (s : RosterState) (groups : List (List ℕ)) (old : RosterRow) → is_contact_of who other old ≡ true
    → row.eq-value.it (new_contact who other s groups) old ≡ is_contact s groups old
unfolding same_jid same_bare
found_same who other s groups old h =
    bare_parts (bytes_eq who.local old.account.local) (bytes_eq who.host old.account.host) (bytes_eq other.local old.contact.local) (bytes_eq other.host old.contact.host)
    (bytes_eq [] old.account.resource) (bytes_eq [] old.contact.resource) (state.eq-value.it s old.state && pointwise bytes_eq groups old.groups) h
    ∙ ap₂ (λ (x y : Bool). x && (y && (state.eq-value.it s old.state && pointwise bytes_eq groups old.groups))) (empty-test old.account.resource) (empty-test old.contact.resource)

pub contact-found : (who other : Jid) (s : RosterState) (groups : List (List ℕ)) (rows : List RosterRow) (old : RosterRow) → Some old ≡ contact_at who other rows
    → not (is_contact s groups old) ≡ not (same_rosters (roster_with (new_contact who other s groups) rows) rows)
unfolding same_bare
contact-found who other s groups rows old h =
    ap not (sym (found_same who other s groups old (find-passes (is_contact_of who other) rows old (sym h))))
    ∙ put-changes row.eq-value.it same_contact-itself (is_contact_of who other) (new_contact who other s groups) old rows h

pub contact-absent : (who other : Jid) (s : RosterState) (groups : List (List ℕ)) (rows : List RosterRow) → None ≡ contact_at who other rows
    → true ≡ not (same_rosters (roster_with (new_contact who other s groups) rows) rows)
unfolding same_bare
contact-absent who other s groups rows h = put-adds row.eq-value.it same_contact-itself (is_contact_of who other) (new_contact who other s groups) rows h

pub contact-removed : (who other : Jid) (rows : List RosterRow) → is_some (contact_at who other rows) ≡ not (same_rosters (roster_without who other rows) rows)
contact-removed who other rows = removal-changes row.eq-value.it same_contact-itself (is_contact_of who other) rows

pub contacts-itself : (rows : List RosterRow) → false ≡ not (same_rosters rows rows)
contacts-itself rows = ap not (sym (all_same row.eq-value.it same_contact-itself (λ _. true) rows))
