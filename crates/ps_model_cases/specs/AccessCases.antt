-- A whitelist, and a node whose owner is asked: who reads, who is asked, and what is told of it.
use Rattle.std.specs.Prelude.{ℕ, List, [], ◌∷◌, ◌++◌, None, codes}
use Rattle.ps_types.specs.Namespaces.{data_ns, pubsub_ns}
use Rattle.ps_types.specs.Print.{client}
use Rattle.ps_types.specs.Shape.{element}
use Rattle.ps_types.specs.Tree.{Tree}
use Rattle.ps_types.specs.declared.entry.Notice.{Notice}
use Rattle.ps_model_cases.specs.Case.{Exchange, kept}
use Rattle.ps_model_cases.specs.Denials.{closed_node, forbidden, not_authorized}
use Rattle.ps_model_cases.specs.Handed.{event_of, headline, plain}
use Rattle.ps_model_cases.specs.Words.{bare_bob, bare_cid, news, one_of, ann, bob, cid, dot, alf, service, to_ann, to_bob, sets, gets, sends, done, shown, denied, pubsub, part, form, field, value, create_with, publish, published, get_items, items_of, subscribe, subscribed, subscription, affiliation, affiliate}

-- the subscriptions of who asks
abbrev pub get_subscriptions : Tree
get_subscriptions = pubsub (part (codes "subscriptions") [] [] ∷ [])

abbrev pub subscriptions : List Tree → List Tree
subscriptions rows = pubsub (part (codes "subscriptions") [] rows ∷ []) ∷ []

-- ---- a whitelist

abbrev pub w : List ℕ
w = codes "w"

-- one is a member, one may only publish, one is an outcast; the member subscribes, and is a member no more
abbrev pub whitelist : List Exchange
whitelist =
    done (sets ann 1 (create_with w (field (codes "access_model") (codes "whitelist") ∷ []))) []
    ∷ done (sets ann 2 (publish w (codes "x"))) (published w (codes "x"))
    ∷ done (sets ann 3 (affiliate w (affiliation bare_bob (codes "member") ∷ affiliation bare_cid (codes "publish-only") ∷ affiliation (codes "dot@b.example") (codes "outcast") ∷ []))) []
    ∷ denied (gets alf 1 (get_items w)) closed_node
    ∷ shown (gets bob 2 (get_items w)) (one_of w (codes "x"))
    ∷ denied (gets cid 3 (get_items w)) forbidden
    ∷ denied (gets dot 4 (get_items w)) forbidden
    ∷ done (sets bob 5 (subscribe bare_bob w)) (subscribed bare_bob w)
    ∷ done (sets ann 4 (publish w (codes "a"))) (published w (codes "a"))
    ∷ done (sets ann 5 (affiliate w (affiliation bare_bob (codes "none") ∷ []))) []
    ∷ done (sets ann 6 (publish w (codes "b"))) (published w (codes "b"))
    ∷ denied (gets bob 6 (get_items w)) closed_node
    ∷ shown (gets bob 7 get_subscriptions) (subscriptions (subscription bare_bob w (codes "subscribed") ∷ []))
    ∷ []

abbrev pub whitelist_told : List Notice
whitelist_told = headline to_bob 5 1 (event_of w (codes "a") ∷ []) ∷ []

-- ---- an owner is asked

abbrev pub q : List ℕ
q = codes "q"

abbrev pub asking : Exchange
asking = done (sets ann 1 (create_with q (field (codes "access_model") (codes "authorize") ∷ []))) []

abbrev pub pending : Tree
pending = pubsub (subscription bare_bob q (codes "pending") ∷ [])

abbrev pub not_subscribed : List ℕ
not_subscribed = codes "not-subscribed"

-- ann's answer to the question
abbrev pub approval : ℕ → List ℕ → Exchange
approval number allow =
    kept (sends ann number (element (codes "message") client ((codes "from", codes "ann@a.example/1") ∷ (codes "to", service) ∷ [])
    (form (codes "#subscribe_authorization") (field (codes "node") q ∷ field (codes "subscriber_jid") bare_bob ∷ field (codes "allow") allow ∷ []) ∷ []))) None

abbrev pub approved : List Exchange
approved =
    asking
    ∷ done (sets bob 1 (subscribe bare_bob q)) (pending ∷ [])
    ∷ denied (sets bob 2 (subscribe bare_bob q)) (not_authorized (codes "pending-subscription"))
    ∷ denied (gets bob 3 (get_items q)) (not_authorized not_subscribed)
    ∷ done (sets ann 2 (publish q (codes "x"))) (published q (codes "x"))
    ∷ approval 3 (codes "1")
    ∷ shown (gets bob 4 (get_items q)) (one_of q (codes "x"))
    ∷ done (sets ann 4 (publish q (codes "y"))) (published q (codes "y"))
    ∷ []

abbrev pub typed_field : List ℕ → List ℕ → List ℕ → Tree
typed_field type var text = element (codes "field") data_ns ((codes "type", type) ∷ (codes "var", var) ∷ []) (value text ∷ [])

-- the question to an owner
abbrev pub question : ℕ → ℕ → Notice
question place number = plain to_ann place number (element (codes "x") data_ns ((codes "type", codes "form") ∷ [])
    (typed_field (codes "hidden") (codes "FORM_TYPE") (pubsub_ns ++ codes "#subscribe_authorization")
    ∷ typed_field (codes "text-single") (codes "pubsub#node") q
    ∷ typed_field (codes "jid-single") (codes "pubsub#subscriber_jid") bare_bob
    ∷ typed_field (codes "boolean") (codes "pubsub#allow") (codes "0")
    ∷ []) ∷ [])

-- what became of the subscription
abbrev pub told_state : ℕ → ℕ → List ℕ → Notice
told_state place number state = plain to_bob place number (pubsub (subscription bare_bob q state ∷ []) ∷ [])

abbrev pub approved_told : List Notice
approved_told = question 2 1 ∷ told_state 4 1 (codes "subscribed") ∷ headline to_bob 5 2 (event_of q (codes "y") ∷ []) ∷ []

-- refused, he asks again and is let in
abbrev pub refused : List Exchange
refused =
    asking
    ∷ done (sets bob 1 (subscribe bare_bob q)) (pending ∷ [])
    ∷ denied (gets bob 2 (get_items q)) (not_authorized not_subscribed)
    ∷ shown (gets bob 3 get_subscriptions) (subscriptions (subscription bare_bob q (codes "pending") ∷ []))
    ∷ approval 2 (codes "0")
    ∷ denied (gets bob 4 (get_items q)) (not_authorized not_subscribed)
    ∷ shown (gets bob 5 get_subscriptions) (subscriptions [])
    ∷ done (sets bob 6 (subscribe bare_bob q)) (pending ∷ [])
    ∷ approval 3 (codes "1")
    ∷ shown (gets bob 7 (get_items q)) (items_of q [])
    ∷ []

abbrev pub refused_told : List Notice
refused_told = question 2 1 ∷ told_state 3 1 (codes "none") ∷ question 4 2 ∷ told_state 5 2 (codes "subscribed") ∷ []

-- ---- an open node at which subscribers publish

abbrev pub subscribers : List Exchange
subscribers =
    done (sets ann 1 (create_with news (field (codes "publish_model") (codes "subscribers") ∷ []))) []
    ∷ denied (sets bob 1 (publish news (codes "i"))) forbidden
    ∷ done (sets bob 2 (subscribe bare_bob news)) (subscribed bare_bob news)
    ∷ done (sets bob 3 (publish news (codes "i"))) (published news (codes "i"))
    ∷ shown (gets cid 4 (get_items news)) (one_of news (codes "i"))
    ∷ []

abbrev pub subscribers_told : List Notice
subscribers_told = headline to_bob 3 1 (event_of news (codes "i") ∷ []) ∷ []
