-- The forms of configurations and options are of texts.
use Rattle.std.proofs.Common.{◌≡◌, ℕ, Bool, true, false, List, [], ◌∷◌, ◌++◌, IsUtf8, refl}
use Rattle.std.specs.Prelude.{codes}
use Rattle.std.specs.List.{AllByRecursion as Each}
use Rattle.ps_types.specs.declared.config.Access.{Access}
use Rattle.ps_types.specs.declared.config.Access.TheVariants as access
use Rattle.ps_types.specs.declared.config.NodeConfig.{NodeConfig}
use Rattle.ps_types.specs.declared.config.NodeKind.{NodeKind}
use Rattle.ps_types.specs.declared.config.NodeKind.TheVariants as kind
use Rattle.ps_types.specs.declared.config.NoticeKind.{NoticeKind}
use Rattle.ps_types.specs.declared.config.NoticeKind.TheVariants as notice
use Rattle.ps_types.specs.declared.config.PublishModel.{PublishModel}
use Rattle.ps_types.specs.declared.config.PublishModel.TheVariants as model
use Rattle.ps_types.specs.declared.config.SendLast.{SendLast}
use Rattle.ps_types.specs.declared.config.SendLast.TheVariants as send
use Rattle.ps_types.specs.declared.config.SubOptions.{SubOptions}
use Rattle.ps_types.specs.Config.{access_text, config_form, config_type, kind_text, model_text, notice_text, send_text}
use Rattle.ps_types.specs.Options.{depth_text, options_form, options_type, type_text}
use Rattle.ps_types.specs.Values.{boolean_text}
use Rattle.ps_compact_laws.proofs.Texts.{decimal-utf8, is_word}
use Rattle.ps_sink_laws.proofs.Books.{IsConfigText}
use Rattle.ps_sink_laws.proofs.Elements.{FieldIs}
use Rattle.ps_compact_laws.proofs.Drafts.{word}

-- a field of a var and a type that are words
texts-field : (var kind : List ℕ) (values : List (List ℕ)) → is_word var ≡ true → is_word kind ≡ true → Each IsUtf8 values → FieldIs (record { var = var; kind = kind; values = values })
texts-field var kind values u v are = record { var = word var u; kind = word kind v; values = are }

boolean-utf8 : (b : Bool) → IsUtf8 (boolean_text b)
boolean-utf8 true = word (codes "1") refl
boolean-utf8 false = word (codes "0") refl

access-utf8 : (a : Access) → IsUtf8 (access_text a)
access-utf8 access.Everyone = word (codes "open") refl
access-utf8 access.Presence = word (codes "presence") refl
access-utf8 access.Roster = word (codes "roster") refl
access-utf8 access.Authorize = word (codes "authorize") refl
access-utf8 access.Whitelist = word (codes "whitelist") refl

model-utf8 : (m : PublishModel) → IsUtf8 (model_text m)
model-utf8 model.Publishers = word (codes "publishers") refl
model-utf8 model.Subscribers = word (codes "subscribers") refl
model-utf8 model.Anyone = word (codes "open") refl

send-utf8 : (s : SendLast) → IsUtf8 (send_text s)
send-utf8 send.Never = word (codes "never") refl
send-utf8 send.OnSub = word (codes "on_sub") refl
send-utf8 send.OnSubAndPresence = word (codes "on_sub_and_presence") refl

notice-utf8 : (n : NoticeKind) → IsUtf8 (notice_text n)
notice-utf8 notice.Normal = word (codes "normal") refl
notice-utf8 notice.Headline = word (codes "headline") refl

kind-utf8 : (k : NodeKind) → IsUtf8 (kind_text k)
kind-utf8 kind.Leaf = word (codes "leaf") refl
kind-utf8 kind.Collection = word (codes "collection") refl

abbrev hidden : List ℕ
hidden = codes "hidden"

abbrev single : List ℕ
single = codes "text-single"

abbrev boolean : List ℕ
boolean = codes "boolean"

abbrev list : List ℕ
list = codes "list-single"

abbrev var : List ℕ → List ℕ
var name = codes "pubsub#" ++ name

pub config-fields : (c : NodeConfig) → IsConfigText c → Each FieldIs (config_form c).fields
config-fields c is = (
  texts-field (codes "FORM_TYPE") hidden (config_type ∷ []) refl refl (word config_type refl, tt),
  (
    texts-field (var (codes "title")) single (c.title ∷ []) refl refl (is.title, tt),
    (
      texts-field (var (codes "deliver_notifications")) boolean _ refl refl (boolean-utf8 c.deliver_notifications, tt),
      (
        texts-field (var (codes "deliver_payloads")) boolean _ refl refl (boolean-utf8 c.deliver_payloads, tt),
        (
          texts-field (var (codes "notify_config")) boolean _ refl refl (boolean-utf8 c.notify_config, tt),
          (
            texts-field (var (codes "notify_delete")) boolean _ refl refl (boolean-utf8 c.notify_delete, tt),
            (
              texts-field (var (codes "notify_retract")) boolean _ refl refl (boolean-utf8 c.notify_retract, tt),
              (
                texts-field (var (codes "persist_items")) boolean _ refl refl (boolean-utf8 c.persist_items, tt),
                (
                  texts-field (var (codes "max_items")) single _ refl refl (decimal-utf8 c.max_items, tt),
                  (
                    texts-field (var (codes "access_model")) list _ refl refl (access-utf8 c.access_model, tt),
                    (
                      texts-field (var (codes "publish_model")) list _ refl refl (model-utf8 c.publish_model, tt),
                      (
                        texts-field (var (codes "roster_groups_allowed")) (codes "list-multi") c.roster_groups_allowed refl refl is.groups,
                        (
                          texts-field (var (codes "send_last_published_item")) list _ refl refl (send-utf8 c.send_last_published_item, tt),
                          (
                            texts-field (var (codes "presence_based_delivery")) boolean _ refl refl (boolean-utf8 c.presence_based_delivery, tt),
                            (
                              texts-field (var (codes "notification_type")) list _ refl refl (notice-utf8 c.notification_type, tt),
                              (
                                texts-field (var (codes "max_payload_size")) single _ refl refl (decimal-utf8 c.max_payload_size, tt),
                                (
                                  texts-field (var (codes "node_type")) list _ refl refl (kind-utf8 c.node_type, tt),
                                  (
                                    texts-field (var (codes "collection")) single (c.collection ∷ []) refl refl (is.collection, tt),
                                    tt,
                                  ),
                                ),
                              ),
                            ),
                          ),
                        ),
                      ),
                    ),
                  ),
                ),
              ),
            ),
          ),
        ),
      ),
    ),
  ),
)

type-utf8 : (b : Bool) → IsUtf8 (type_text b)
type-utf8 true = word (codes "items") refl
type-utf8 false = word (codes "nodes") refl

depth-utf8 : (b : Bool) → IsUtf8 (depth_text b)
depth-utf8 true = word (codes "all") refl
depth-utf8 false = word (codes "1") refl

pub options-fields : (o : SubOptions) → Each FieldIs (options_form o).fields
options-fields o = (
  texts-field (codes "FORM_TYPE") hidden (options_type ∷ []) refl refl (word options_type refl, tt),
  (
    texts-field (var (codes "subscription_type")) list _ refl refl (type-utf8 o.items, tt),
    (
      texts-field (var (codes "subscription_depth")) list _ refl refl (depth-utf8 o.deep, tt),
      tt,
    ),
  ),
)
