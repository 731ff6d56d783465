-- What a form of texts makes of a configuration of texts is one.
use Rattle.std.proofs.Common.{◌≡◌, ℕ, ◌+◌, Bool, true, false, cond, List, [], ◌∷◌, length, Option, Some, None, option_map, IsUtf8, Ok, subst, refl}
use Rattle.std.specs.Prelude.{find, nat_le, option_and_then}
use Rattle.std.specs.List.{AllByRecursion as Each}
use Rattle.std.proofs.lemmas.Option.{same_Some}
use Rattle.ps_types.specs.declared.config.Access.{Access}
use Rattle.ps_types.specs.declared.config.NodeConfig.{NodeConfig}
use Rattle.ps_types.specs.declared.config.NodeKind.{NodeKind}
use Rattle.ps_types.specs.declared.config.NoticeKind.{NoticeKind}
use Rattle.ps_types.specs.declared.config.PublishModel.{PublishModel}
use Rattle.ps_types.specs.declared.config.SendLast.{SendLast}
use Rattle.ps_types.specs.declared.form.Field.{Field}
use Rattle.ps_types.specs.declared.form.Form.{Form}
use Rattle.ps_types.specs.Config.{ConfigRow, access_choices, after_row, config_rows, kind_choices, model_choices, most_of, name_of, notice_choices, read_config, read_rows, row_change, send_choices}
use Rattle.ps_types.specs.Forms.{is_field, values_of}
use Rattle.ps_types.specs.Values.{boolean_in, choice_in, number_of, single}
use Rattle.ps_compact_laws.proofs.AskedTexts.{FieldIs}
use Rattle.ps_sink_laws.proofs.Books.{IsConfigText}

-- ---- values

single-text : (values : List (List ℕ)) (x : List ℕ) → single values ≡ Some x → Each IsUtf8 values → IsUtf8 x
single-text [] x e are = absurd (cc e)
single-text (v ∷ []) x e are = subst IsUtf8 (same_Some v x e) are.0
single-text (v ∷ w ∷ values) x e are = absurd (cc e)

title-text : (values : List (List ℕ)) (o : Option (List ℕ)) (x : List ℕ) → single values ≡ o → option_and_then (λ t. Some t) o ≡ Some x → Each IsUtf8 values → IsUtf8 x
title-text values None x e h are = absurd (cc h)
title-text values (Some v) x e h are = subst IsUtf8 (same_Some v x h) (single-text values v e are)

short-is : (b : Bool) (v x : List ℕ) → cond b (Some v) None ≡ Some x → v ≡ x
short-is true v x h = same_Some v x h
short-is false v x h = absurd (cc h)

name-text : (values : List (List ℕ)) (o : Option (List ℕ)) (x : List ℕ) → single values ≡ o → option_and_then name_of o ≡ Some x → Each IsUtf8 values → IsUtf8 x
name-text values None x e h are = absurd (cc h)
name-text values (Some v) x e h are = subst IsUtf8 (short-is (nat_le (length v) 512) v x h) (single-text values v e are)

-- ---- rows

set-text : {X : Type 0} (set : X → NodeConfig) (o : Option X) (c : NodeConfig) → ((x : X) → o ≡ Some x → IsConfigText (set x)) → option_map set o ≡ Some c → IsConfigText c
set-text set None c each e = absurd (cc e)
set-text set (Some x) c each e = subst IsConfigText (same_Some (set x) c e) (each x refl)

-- with the same texts
like : (c d : NodeConfig) → c.title ≡ d.title → c.roster_groups_allowed ≡ d.roster_groups_allowed → c.collection ≡ d.collection → IsConfigText d → IsConfigText c
like c d title groups name is = record { title = rw title is.title; groups = rw groups is.groups; collection = rw name is.collection }

-- what a row makes of a configuration of texts, where its values are texts, is one
RowKeeps : ConfigRow → Type 0
RowKeeps row = (d c : NodeConfig) (values : List (List ℕ)) → Each IsUtf8 values → IsConfigText d → row.change d values ≡ Some c → IsConfigText c

-- a row of something else
plain : {X : Type 0} (put : NodeConfig → X → NodeConfig) (get : List (List ℕ) → Option X) → ((d : NodeConfig) (x : X) → IsConfigText d → IsConfigText (put d x))
    → (d c : NodeConfig) (values : List (List ℕ)) → Each IsUtf8 values → IsConfigText d → option_map (put d) (get values) ≡ Some c → IsConfigText c
plain put get keeps d c values are is e = set-text (put d) (get values) c (λ x h. keeps d x is) e

title-keeps : (d c : NodeConfig) (values : List (List ℕ)) → Each IsUtf8 values → IsConfigText d
    → option_map (λ (x : List ℕ). record d { title = x }) (option_and_then (λ t. Some t) (single values)) ≡ Some c → IsConfigText c
title-keeps d c values are is e =
    set-text (λ (x : List ℕ). record d { title = x }) (option_and_then (λ t. Some t) (single values)) c
    (λ x h. record { title = title-text values (single values) x refl h are; groups = is.groups; collection = is.collection }) e

groups-keep : (d c : NodeConfig) (values : List (List ℕ)) → Each IsUtf8 values → IsConfigText d → Some (record d { roster_groups_allowed = values }) ≡ Some c → IsConfigText c
groups-keep d c values are is e = subst IsConfigText (same_Some (record d { roster_groups_allowed = values }) c e) (record { title = is.title; groups = are; collection = is.collection })

name-keeps : (d c : NodeConfig) (values : List (List ℕ)) → Each IsUtf8 values → IsConfigText d
    → option_map (λ (x : List ℕ). record d { collection = x }) (option_and_then name_of (single values)) ≡ Some c → IsConfigText c
name-keeps d c values are is e =
    set-text (λ (x : List ℕ). record d { collection = x }) (option_and_then name_of (single values)) c
    (λ x h. record { title = is.title; groups = is.groups; collection = name-text values (single values) x refl h are }) e

rows-keep : Each RowKeeps config_rows
unfolding RowKeeps
rows-keep = (
  title-keeps,
  (
    plain (λ (d : NodeConfig) (x : Bool). record d { deliver_notifications = x }) boolean_in (λ d x is. like (record d { deliver_notifications = x }) d refl refl refl is),
    (
      plain (λ (d : NodeConfig) (x : Bool). record d { deliver_payloads = x }) boolean_in (λ d x is. like (record d { deliver_payloads = x }) d refl refl refl is),
      (
        plain (λ (d : NodeConfig) (x : Bool). record d { notify_config = x }) boolean_in (λ d x is. like (record d { notify_config = x }) d refl refl refl is),
        (
          plain (λ (d : NodeConfig) (x : Bool). record d { notify_delete = x }) boolean_in (λ d x is. like (record d { notify_delete = x }) d refl refl refl is),
          (
            plain (λ (d : NodeConfig) (x : Bool). record d { notify_retract = x }) boolean_in (λ d x is. like (record d { notify_retract = x }) d refl refl refl is),
            (
              plain (λ (d : NodeConfig) (x : Bool). record d { persist_items = x }) boolean_in (λ d x is. like (record d { persist_items = x }) d refl refl refl is),
              (
                plain (λ (d : NodeConfig) (x : ℕ). record d { max_items = x }) (λ values. option_and_then most_of (single values)) (λ d x is. like (record d { max_items = x }) d refl refl refl is),
                (
                  plain (λ (d : NodeConfig) (x : Access). record d { access_model = x }) (choice_in access_choices) (λ d x is. like (record d { access_model = x }) d refl refl refl is),
                  (
                    plain (λ (d : NodeConfig) (x : PublishModel). record d { publish_model = x }) (choice_in model_choices) (λ d x is. like (record d { publish_model = x }) d refl refl refl is),
                    (
                      groups-keep,
                      (
                        plain (λ (d : NodeConfig) (x : SendLast). record d { send_last_published_item = x }) (choice_in send_choices)
                            (λ d x is. like (record d { send_last_published_item = x }) d refl refl refl is),
                        (
                          plain (λ (d : NodeConfig) (x : Bool). record d { presence_based_delivery = x }) boolean_in (λ d x is. like (record d { presence_based_delivery = x }) d refl refl refl is),
                          (
                            plain (λ (d : NodeConfig) (x : NoticeKind). record d { notification_type = x }) (choice_in notice_choices)
                                (λ d x is. like (record d { notification_type = x }) d refl refl refl is),
                            (
                              plain (λ (d : NodeConfig) (x : ℕ). record d { max_payload_size = x }) (λ values. option_and_then (number_of 131072) (single values))
                                  (λ d x is. like (record d { max_payload_size = x }) d refl refl refl is),
                              (
                                plain (λ (d : NodeConfig) (x : NodeKind). record d { node_type = x }) (choice_in kind_choices) (λ d x is. like (record d { node_type = x }) d refl refl refl is),
                                (
                                  name-keeps,
                                  tt,
                                ),
                              ),
                            ),
                          ),
                        ),
                      ),
                    ),
                  ),
                ),
              ),
            ),
          ),
        ),
      ),
    ),
  ),
)

-- ---- a form

found-if : (var : List ℕ) (f : Field) (fields : List Field) (values : List (List ℕ)) (b : Bool) → Each IsUtf8 f.values
    → (option_map (λ (g : Field). g.values) (find (is_field var) fields) ≡ Some values → Each IsUtf8 values)
    → option_map (λ (g : Field). g.values) (cond b (Some f) (find (is_field var) fields)) ≡ Some values → Each IsUtf8 values
found-if var f fields values true own later e = subst (Each IsUtf8) (same_Some f.values values e) own
found-if var f fields values false own later e = later e

found-values : (var : List ℕ) (fields : List Field) (values : List (List ℕ)) → Each FieldIs fields → option_map (λ (f : Field). f.values) (find (is_field var) fields) ≡ Some values
    → Each IsUtf8 values
unfolding FieldIs
found-values var [] values are e = absurd (cc e)
found-values var (f ∷ fields) values are e = found-if var f fields values (is_field var f) are.0 (λ h. found-values var fields values are.1 h) e

module _ (form : Form) (are : Each FieldIs form.fields) where
  given-text : (row : ConfigRow) (given : Option (List (List ℕ))) (d c : NodeConfig) → RowKeeps row → values_of row.var form ≡ given → IsConfigText d → row_change row d given ≡ Some c → IsConfigText c
  unfolding RowKeeps
  given-text row None d c keeps at is e = subst IsConfigText (same_Some d c e) is
  given-text row (Some values) d c keeps at is e = keeps d c values (found-values row.var form.fields values are at) is e

  step-text : (n : ℕ) (row : ConfigRow) (rows : List ConfigRow) (d c : NodeConfig) (o : Option NodeConfig) → RowKeeps row → row_change row d (values_of row.var form) ≡ o → IsConfigText d
      → ((m : NodeConfig) → IsConfigText m → read_rows (n + 1) rows form m ≡ Ok c → IsConfigText c) → after_row n o (λ x. read_rows (n + 1) rows form x) ≡ Ok c → IsConfigText c
  step-text n row rows d c None keeps one is later e = absurd (cc e)
  step-text n row rows d c (Some m) keeps one is later e = later m (given-text row (values_of row.var form) d m keeps refl is one) e

  rows-text : (n : ℕ) (rows : List ConfigRow) (d c : NodeConfig) → Each RowKeeps rows → IsConfigText d → read_rows n rows form d ≡ Ok c → IsConfigText c
  rows-text n [] d c keep is e = let same : d ≡ c = cc e in subst IsConfigText same is
  rows-text n (row ∷ rows) d c keep is e = step-text n row rows d c (row_change row d (values_of row.var form)) keep.0 refl is (λ m more h. rows-text (n + 1) rows m c keep.1 more h) e

  pub config-text : (base config : NodeConfig) → IsConfigText base → read_config form base ≡ Ok config → IsConfigText config
  config-text base config is e = rows-text 1 config_rows base config rows-keep is e
