-- The form of a node's configuration as it is shown.
use Rattle.std.specs.Prelude.{ℕ, List, [], ◌∷◌, ◌++◌, codes}
use Rattle.ps_types.specs.Namespaces.{data_ns}
use Rattle.ps_types.specs.Shape.{element}
use Rattle.ps_types.specs.Tree.{Tree, tree, none}
use Rattle.ps_model_cases.specs.Words.{value}

abbrev pub shown_field : List ℕ → List ℕ → List Tree → Tree
shown_field type var values = element (codes "field") data_ns ((codes "type", type) ∷ (codes "var", codes "pubsub#" ++ var) ∷ []) values

abbrev pub flag : List ℕ → List ℕ → Tree
flag var text = shown_field (codes "boolean") var (value text ∷ [])

abbrev pub choice : List ℕ → List ℕ → Tree
choice var text = shown_field (codes "list-single") var (value text ∷ [])

abbrev pub number : List ℕ → List ℕ → Tree
number var text = shown_field (codes "text-single") var (value text ∷ [])

-- an empty text is a value without children
abbrev pub empty_value : Tree
empty_value = tree (codes "value") data_ns [] none

abbrev pub name_value : List ℕ → Tree
name_value [] = empty_value
name_value (x ∷ name) = value (x ∷ name)

-- of a leaf with these values, that was made without any other setting
abbrev pub form_with : List ℕ → List ℕ → List ℕ → List ℕ → Tree
form_with most access last collection = element (codes "x") data_ns ((codes "type", codes "form") ∷ []) (
    element (codes "field") data_ns ((codes "type", codes "hidden") ∷ (codes "var", codes "FORM_TYPE") ∷ []) (value (codes "http://jabber.org/protocol/pubsub#node_config") ∷ [])
    ∷ shown_field (codes "text-single") (codes "title") (empty_value ∷ [])
    ∷ flag (codes "deliver_notifications") (codes "1")
    ∷ flag (codes "deliver_payloads") (codes "1")
    ∷ flag (codes "notify_config") (codes "0")
    ∷ flag (codes "notify_delete") (codes "0")
    ∷ flag (codes "notify_retract") (codes "0")
    ∷ flag (codes "persist_items") (codes "1")
    ∷ number (codes "max_items") most
    ∷ choice (codes "access_model") access
    ∷ choice (codes "publish_model") (codes "publishers")
    ∷ shown_field (codes "list-multi") (codes "roster_groups_allowed") []
    ∷ choice (codes "send_last_published_item") last
    ∷ flag (codes "presence_based_delivery") (codes "0")
    ∷ choice (codes "notification_type") (codes "headline")
    ∷ number (codes "max_payload_size") (codes "65536")
    ∷ choice (codes "node_type") (codes "leaf")
    ∷ shown_field (codes "text-single") (codes "collection") (name_value collection ∷ [])
    ∷ [])

-- of one at the service in that collection, or in none, and of one of an account
abbrev pub form_shown : List ℕ → Tree
form_shown collection = form_with (codes "10") (codes "open") (codes "never") collection

abbrev pub account_form : Tree
account_form = form_with (codes "1") (codes "presence") (codes "on_sub_and_presence") []
