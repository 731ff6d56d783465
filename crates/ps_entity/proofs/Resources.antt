-- When two resources are the same, and what setting one changes.
use Rattle.std.proofs.Common.{◌≡◌, ℕ, Bool, true, not, ◌&&◌, List, Option, Some, None, refl, sym, ap, ◌∙◌}
use Rattle.std.specs.Prelude.{is_some}
use Rattle.std.specs.Cmp.Lexicographic.{pointwise}
use Rattle.std.specs.Str.{bytes_eq}
use Rattle.std.proofs.lemmas.Slice.Eq.{bytes_eq-Decides}
use Rattle.ps_types.specs.declared.jid.Jid.{Jid}
use Rattle.ps_types.specs.declared.rows.Caps.{Caps}
use Rattle.ps_types.specs.declared.rows.ResourceRow.{ResourceRow}
use Rattle.ps_types.specs.contracts.rows.ResourceRowPartialEq.TheImpl as row
use Rattle.ps_types.specs.Resources.{is_resource_of, resource_at, resources_with, resources_without}
use Rattle.ps_types.specs.Same.{same_jid}
use Rattle.ps_types.proofs.Same.{same_jid-Decides}
use Rattle.ps_model.specs.SameRows.{same_resources}
use Rattle.ps_entity.specs.Resources.{shows_caps, is_resource}
use Rattle.ps_entity.proofs.Contacts.{texts_itself}
use Rattle.ps_entity.proofs.Rows.{put-changes, put-adds, removal-changes, find-passes}

same_resource-parts : (a b : ResourceRow) → row.eq-value.it a b ≡ (same_jid a.who b.who && (shows_caps a.caps b.caps && pointwise bytes_eq a.features b.features))
unfolding same_jid
same_resource-parts a b = by a.caps b.caps
  where
    by : (c d : Option Caps) → row.eq-value.it (record a { caps = c }) (record b { caps = d }) ≡ (same_jid a.who b.who && (shows_caps c d && pointwise bytes_eq a.features b.features))
    by None None = refl
    by None (Some d) = refl
    by (Some c) None = refl
    by (Some c) (Some d) = refl

three_true : (a b c : Bool) → a ≡ true → b ≡ true → c ≡ true → (a && (b && c)) ≡ true
three_true a b c p q r = rw (p, q, r) refl

caps_itself : (caps : Option Caps) → shows_caps caps caps ≡ true
caps_itself None = refl
caps_itself (Some caps) = three_true (bytes_eq caps.hash caps.hash) (bytes_eq caps.node caps.node) (bytes_eq caps.ver caps.ver) ((bytes_eq-Decides caps.hash caps.hash).1 refl)
    ((bytes_eq-Decides caps.node caps.node).1 refl) ((bytes_eq-Decides caps.ver caps.ver).1 refl)

pub same_resource-itself : (a : ResourceRow) → row.eq-value.it a a ≡ true
same_resource-itself a =
    same_resource-parts a a ∙ three_true (same_jid a.who a.who) (shows_caps a.caps a.caps) (pointwise bytes_eq a.features a.features) ((same_jid-Decides a.who a.who).1 refl) (caps_itself a.caps)
    (texts_itself a.features)

-- a resource whose features alone are set is the same where it had them
pub same_features : (a : ResourceRow) (features : List (List ℕ)) → row.eq-value.it (record a { features = features }) a ≡ pointwise bytes_eq features a.features
same_features a features =
    same_resource-parts (record a { features = features }) a ∙ two_true (same_jid a.who a.who) (shows_caps a.caps a.caps) (pointwise bytes_eq features a.features)
    ((same_jid-Decides a.who a.who).1 refl) (caps_itself a.caps)
  where
    two_true : (a b c : Bool) → a ≡ true → b ≡ true → (a && (b && c)) ≡ c
    two_true a b c p q = rw (p, q) refl

abbrev new_resource : Jid → Option Caps → List (List ℕ) → ResourceRow
new_resource who caps features = record { who = who; caps = caps; features = features }

second : (a b : Bool) → a ≡ true → (a && b) ≡ b
second a b h = rw h refl

found_same : (who : Jid) (caps : Option Caps) (features : List (List ℕ)) (old : ResourceRow) → is_resource_of who old ≡ true
    → row.eq-value.it (new_resource who caps features) old ≡ is_resource caps features old
found_same who caps features old h = same_resource-parts (new_resource who caps features) old ∙ second (same_jid who old.who) (is_resource caps features old) h

pub resource-found : (who : Jid) (caps : Option Caps) (features : List (List ℕ)) (rows : List ResourceRow) (old : ResourceRow) → Some old ≡ resource_at who rows
    → not (is_resource caps features old) ≡ not (same_resources (resources_with (new_resource who caps features) rows) rows)
resource-found who caps features rows old h =
    ap not (sym (found_same who caps features old (find-passes (is_resource_of who) rows old (sym h))))
    ∙ put-changes row.eq-value.it same_resource-itself (is_resource_of who) (new_resource who caps features) old rows h

pub resource-absent : (who : Jid) (caps : Option Caps) (features : List (List ℕ)) (rows : List ResourceRow) → None ≡ resource_at who rows
    → true ≡ not (same_resources (resources_with (new_resource who caps features) rows) rows)
resource-absent who caps features rows h = put-adds row.eq-value.it same_resource-itself (is_resource_of who) (new_resource who caps features) rows h

pub resource-removed : (who : Jid) (rows : List ResourceRow) → is_some (resource_at who rows) ≡ not (same_resources (resources_without who rows) rows)
resource-removed who rows = removal-changes row.eq-value.it same_resource-itself (is_resource_of who) rows
