-- The options of a subscription: how they are shown and set, and which are invalid.
use Rattle.std.specs.Prelude.{ℕ, List, [], ◌∷◌, codes}
use Rattle.ps_types.specs.Namespaces.{data_ns}
use Rattle.ps_types.specs.Shape.{element}
use Rattle.ps_types.specs.Tree.{Tree}
use Rattle.ps_model_cases.specs.Case.{Exchange}
use Rattle.ps_model_cases.specs.Denials.{bad, forbidden, nothing_to_end}
use Rattle.ps_model_cases.specs.Forms.{choice}
use Rattle.ps_model_cases.specs.Words.{ann, bob, cid, bare_bob, news, sets, gets, done, shown, denied, pubsub, part, of_subscriber, field, form, value, create, subscribe, subscribed}

-- what is asked for, and what is shown
abbrev pub get_options : Tree
get_options = pubsub (part (codes "options") (of_subscriber bare_bob news) [] ∷ [])

abbrev pub options_shown : List ℕ → List ℕ → List Tree
options_shown type depth = pubsub (part (codes "options") (of_subscriber bare_bob news) (element (codes "x") data_ns ((codes "type", codes "form") ∷ []) (
    element (codes "field") data_ns ((codes "type", codes "hidden") ∷ (codes "var", codes "FORM_TYPE") ∷ []) (value (codes "http://jabber.org/protocol/pubsub#subscribe_options") ∷ [])
    ∷ choice (codes "subscription_type") type
    ∷ choice (codes "subscription_depth") depth
    ∷ []) ∷ []) ∷ []) ∷ []

abbrev pub set_options : List Tree → Tree
set_options forms = pubsub (part (codes "options") (of_subscriber bare_bob news) forms ∷ [])

abbrev pub with_type : List ℕ → List Tree → List Tree
with_type type fields = form type fields ∷ []

abbrev pub depth : List ℕ → Tree
depth text = field (codes "subscription_depth") text

abbrev pub options_type : List ℕ
options_type = codes "#subscribe_options"

abbrev pub invalid : List ℕ
invalid = codes "invalid-options"

-- `subscribe` with options behind it
abbrev pub subscribe_with : List Tree → Tree
subscribe_with forms = pubsub (part (codes "subscribe") (of_subscriber bare_bob news) [] ∷ part (codes "options") [] forms ∷ [])

-- items at depth 1 at first; a field that isn't given stays; options that stay make no entry
abbrev pub options : List Exchange
options =
    done (sets ann 1 (create news)) []
    ∷ denied (gets bob 1 get_options) nothing_to_end
    ∷ done (sets bob 2 (subscribe bare_bob news)) (subscribed bare_bob news)
    ∷ shown (gets bob 3 get_options) (options_shown (codes "items") (codes "1"))
    ∷ done (sets bob 4 (set_options (with_type options_type (depth (codes "all") ∷ [])))) []
    ∷ done (sets bob 5 (set_options (with_type options_type (field (codes "subscription_type") (codes "nodes") ∷ [])))) []
    ∷ shown (gets bob 6 get_options) (options_shown (codes "nodes") (codes "all"))
    ∷ shown (sets bob 7 (set_options (with_type options_type (depth (codes "all") ∷ [])))) []
    ∷ denied (gets cid 8 get_options) forbidden
    ∷ []

-- no form, a value that isn't one, a form of another kind, and one that isn't submitted
abbrev pub invalid_options : List Exchange
invalid_options =
    done (sets ann 1 (create news)) []
    ∷ denied (sets bob 1 (subscribe_with (with_type options_type (depth (codes "2") ∷ [])))) (bad invalid)
    ∷ denied (sets bob 2 (subscribe_with (with_type (codes "#node_config") (depth (codes "all") ∷ [])))) (bad invalid)
    ∷ done (sets bob 3 (subscribe_with [])) (subscribed bare_bob news)
    ∷ denied (sets bob 4 (set_options [])) (bad invalid)
    ∷ denied (sets bob 5 (set_options (with_type options_type (depth (codes "2") ∷ [])))) (bad invalid)
    ∷ denied (sets bob 6 (set_options (element (codes "x") data_ns ((codes "type", codes "form") ∷ []) [] ∷ []))) (bad invalid)
    ∷ []
