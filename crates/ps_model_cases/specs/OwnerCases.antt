-- What an owner sees and sets of affiliations and subscriptions, what each address sees of its own, and a configuration that is cancelled.
use Rattle.std.specs.Prelude.{ℕ, List, [], ◌∷◌, codes}
use Rattle.ps_types.specs.Namespaces.{data_ns}
use Rattle.ps_types.specs.Shape.{element}
use Rattle.ps_types.specs.Tree.{Tree}
use Rattle.ps_types.specs.declared.entry.Notice.{Notice}
use Rattle.ps_model_cases.specs.Case.{Exchange}
use Rattle.ps_model_cases.specs.Denials.{bad_address, bad_request, forbidden, not_acceptable}
use Rattle.ps_model_cases.specs.Forms.{form_shown}
use Rattle.ps_model_cases.specs.Handed.{event_of, headline, plain}
use Rattle.ps_model_cases.specs.HomeCases.{t}
use Rattle.ps_model_cases.specs.Words.{ann, bob, cid, bare_bob, bare_cid, news, to_b, to_bob, to_cid, at_home, sets, gets, done, shown, denied, pubsub, part, owner, owner_part, at_node, field, create, create_with, get_configuration, publish, published, subscribe, subscribed, subscription, affiliation, affiliate}

abbrev pub bare_dot : List ℕ
bare_dot = codes "dot@b.example"

-- ---- affiliations: of a node, in the order of their making, and of an address

abbrev pub get_affiliations : List ℕ → Tree
get_affiliations node = owner (owner_part (codes "affiliations") (at_node node) [] ∷ [])

abbrev pub affiliations_of : List ℕ → List Tree → List Tree
affiliations_of node rows = owner (owner_part (codes "affiliations") (at_node node) rows ∷ []) ∷ []

-- of the sender, at one node or at all
abbrev pub get_mine : List (List ℕ × List ℕ) → Tree
get_mine attrs = pubsub (part (codes "affiliations") attrs [] ∷ [])

abbrev pub mine : List Tree → List Tree
mine rows = pubsub (part (codes "affiliations") [] rows ∷ []) ∷ []

abbrev pub own_affiliation : List ℕ → List ℕ → Tree
own_affiliation affil node = part (codes "affiliation") ((codes "affiliation", affil) ∷ (codes "node", node) ∷ []) []

abbrev pub other : List ℕ
other = codes "other"

abbrev pub ann_owns : Tree
ann_owns = affiliation (codes "ann@a.example") (codes "owner")

abbrev pub affiliations : List Exchange
affiliations =
    done (sets ann 1 (create news)) []
    ∷ done (sets ann 2 (affiliate news (affiliation bare_bob (codes "member") ∷ affiliation bare_cid (codes "publish-only") ∷ []))) []
    ∷ shown (gets ann 3 (get_affiliations news)) (affiliations_of news (ann_owns ∷ affiliation bare_bob (codes "member") ∷ affiliation bare_cid (codes "publish-only") ∷ []))
    ∷ done (sets ann 4 (affiliate news (affiliation bare_cid (codes "none") ∷ affiliation bare_bob (codes "publisher") ∷ affiliation bare_dot (codes "outcast") ∷ []))) []
    ∷ shown (gets ann 5 (get_affiliations news)) (affiliations_of news (ann_owns ∷ affiliation bare_bob (codes "publisher") ∷ affiliation bare_dot (codes "outcast") ∷ []))
    ∷ denied (gets bob 1 (get_affiliations news)) forbidden
    ∷ done (sets bob 2 (create other)) []
    ∷ shown (gets bob 3 (get_mine [])) (mine (own_affiliation (codes "publisher") news ∷ own_affiliation (codes "owner") other ∷ []))
    ∷ shown (gets bob 4 (get_mine (at_node news))) (mine (own_affiliation (codes "publisher") news ∷ []))
    ∷ shown (gets cid 5 (get_mine [])) (mine [])
    ∷ denied (sets ann 6 (affiliate news (affiliation bare_bob (codes "friend") ∷ []))) bad_request
    ∷ denied (sets ann 7 (affiliate news (affiliation [] (codes "member") ∷ []))) bad_address
    ∷ []

-- of a personal node the account comes first, and isn't listed again
abbrev pub personal : List Exchange
personal =
    done (at_home (sets ann 1 (create t))) []
    ∷ done (at_home (sets ann 2 (affiliate t (affiliation bare_bob (codes "member") ∷ [])))) []
    ∷ shown (at_home (gets ann 3 (get_affiliations t))) (affiliations_of t (ann_owns ∷ affiliation bare_bob (codes "member") ∷ []))
    ∷ denied (at_home (sets ann 4 (affiliate t (affiliation (codes "ann@a.example") (codes "member") ∷ [])))) not_acceptable
    ∷ []

-- ---- subscriptions of a node

abbrev pub get_subscriptions : List ℕ → Tree
get_subscriptions node = owner (owner_part (codes "subscriptions") (at_node node) [] ∷ [])

abbrev pub owner_row : List ℕ → List ℕ → Tree
owner_row jid state = owner_part (codes "subscription") ((codes "jid", jid) ∷ (codes "subscription", state) ∷ []) []

abbrev pub subscriptions_of : List ℕ → List Tree → List Tree
subscriptions_of node rows = owner (owner_part (codes "subscriptions") (at_node node) rows ∷ []) ∷ []

abbrev pub set_subscriptions : List ℕ → List Tree → Tree
set_subscriptions node rows = owner (owner_part (codes "subscriptions") (at_node node) rows ∷ [])

abbrev pub i1 : List ℕ
i1 = codes "i1"

-- each row that changes a state is told to its address, and a new subscription gets the last item behind that; what stays as it was is told to nobody
abbrev pub subscriptions : List Exchange
subscriptions =
    done (sets ann 1 (create_with news (field (codes "send_last_published_item") (codes "on_sub") ∷ []))) []
    ∷ done (sets bob 1 (subscribe bare_bob news)) (subscribed bare_bob news)
    ∷ done (sets ann 2 (publish news i1)) (published news i1)
    ∷ shown (gets ann 3 (get_subscriptions news)) (subscriptions_of news (owner_row bare_bob (codes "subscribed") ∷ []))
    ∷ done (sets ann 4 (set_subscriptions news (owner_row bare_bob (codes "none") ∷ owner_row bare_cid (codes "subscribed") ∷ owner_row bare_dot (codes "pending") ∷ []))) []
    ∷ shown (gets ann 5 (get_subscriptions news)) (subscriptions_of news (owner_row bare_cid (codes "subscribed") ∷ owner_row bare_dot (codes "pending") ∷ []))
    ∷ shown (sets ann 6 (set_subscriptions news (owner_row bare_cid (codes "subscribed") ∷ []))) []
    ∷ denied (sets ann 7 (set_subscriptions news (owner_row bare_bob (codes "unconfigured") ∷ []))) not_acceptable
    ∷ denied (sets ann 8 (set_subscriptions news (owner_row bare_bob (codes "perhaps") ∷ []))) bad_request
    ∷ denied (sets ann 9 (set_subscriptions news (owner_row [] (codes "none") ∷ []))) bad_address
    ∷ denied (gets cid 2 (get_subscriptions news)) forbidden
    ∷ []

abbrev pub subscriptions_told : List Notice
subscriptions_told =
    headline to_bob 3 1 (event_of news i1 ∷ [])
    ∷ plain to_bob 4 2 (pubsub (subscription bare_bob news (codes "none") ∷ []) ∷ [])
    ∷ plain to_cid 4 1 (pubsub (subscription bare_cid news (codes "subscribed") ∷ []) ∷ [])
    ∷ headline to_cid 4 2 (event_of news i1 ∷ [])
    ∷ plain (to_b (codes "dot") []) 4 1 (pubsub (subscription bare_dot news (codes "pending") ∷ []) ∷ [])
    ∷ []

-- ---- a cancelled form changes nothing, whatever its fields

abbrev pub cancel : List Tree → Tree
cancel fields = element (codes "x") data_ns ((codes "type", codes "cancel") ∷ []) fields

abbrev pub cancelled : List Exchange
cancelled =
    done (sets ann 1 (create news)) []
    ∷ shown (sets ann 2 (owner (owner_part (codes "configure") (at_node news) (cancel (field (codes "max_items") (codes "0") ∷ []) ∷ []) ∷ []))) []
    ∷ shown (gets ann 3 (get_configuration news)) (owner (owner_part (codes "configure") (at_node news) (form_shown [] ∷ []) ∷ []) ∷ [])
    ∷ denied (sets bob 1 (owner (owner_part (codes "configure") (at_node news) (cancel [] ∷ []) ∷ []))) forbidden
    ∷ denied (sets ann 4 (owner (owner_part (codes "configure") (at_node news) [] ∷ []))) bad_request
    ∷ []
