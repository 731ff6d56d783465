-- Requests that are denied for how they are written or addressed, and what a collection doesn't have.
use Rattle.std.specs.Prelude.{ℕ, List, [], ◌∷◌, codes}
use Rattle.ps_types.specs.Namespaces.{owner_ns, roster_ns}
use Rattle.ps_types.specs.Print.{client}
use Rattle.ps_types.specs.Shape.{element}
use Rattle.ps_types.specs.Tree.{Tree}
use Rattle.ps_types.specs.declared.entry.Notice.{Notice}
use Rattle.ps_model_cases.specs.AccessCases.{q, asking, pending, question}
use Rattle.ps_model_cases.specs.Case.{Exchange, Sent}
use Rattle.ps_model_cases.specs.CollectionCases.{is_collection, top}
use Rattle.ps_model_cases.specs.Denials.{bad, bad_address, bad_request, forbidden, no_such_item, not_here, nothing_to_end, unknown, unsupported}
use Rattle.ps_model_cases.specs.NoticeCases.{i1, i2}
use Rattle.ps_model_cases.specs.Words.{Denial, Iq, ann, bob, bare_bob, news, service, at_home, sets, gets, sends, done, shown, denied, denied_as, pubsub, part, owner, at_node, field, form, create, create_with, payload, item, publish, publish_these, published, get_items, items_of, subscribe}

-- the same to another address, and answered by the service
abbrev pub addressed : List ℕ → Iq → Iq
addressed to request = record request { to = to }

-- and answered by that address
abbrev pub answered_by : List ℕ → Iq → Iq
answered_by to request = record request { to = to; from = to }

-- ---- bad requests

abbrev pub roster : List Tree → Tree
roster items = element (codes "query") roster_ns [] items

abbrev pub contact : List ℕ → List ℕ → Tree
contact jid state = element (codes "item") roster_ns ((codes "jid", jid) ∷ (codes "subscription", state) ∷ []) []

abbrev pub retract_these : List Tree → Tree
retract_these items = pubsub (part (codes "retract") (at_node news) items ∷ [])

abbrev pub items_most : List ℕ → Tree
items_most most = pubsub (part (codes "items") ((codes "max_items", most) ∷ (codes "node", news) ∷ []) [] ∷ [])

-- two where one is taken, none where one is needed, and values that aren't any
abbrev pub bad_requests : List Exchange
bad_requests =
    done (sets ann 1 (create news)) []
    ∷ denied (sets ann 2 (pubsub [])) bad_request
    ∷ denied (sets ann 3 (publish_these news (item i1 (payload ∷ []) ∷ item i2 (payload ∷ []) ∷ []))) bad_request
    ∷ done (sets ann 4 (publish news i1)) (published news i1)
    ∷ done (sets ann 5 (publish news i2)) (published news i2)
    ∷ denied (sets ann 6 (retract_these (item i1 [] ∷ item i2 [] ∷ []))) bad_request
    ∷ denied (sets ann 7 (retract_these [])) (bad (codes "item-required"))
    ∷ denied (gets bob 1 (items_most (codes "two"))) bad_request
    ∷ denied (gets bob 2 (items_most (codes "1234567890"))) bad_request
    ∷ shown (gets bob 3 (items_most (codes "1"))) (items_of news (item i2 (payload ∷ []) ∷ []))
    ∷ denied (at_home (sets ann 8 (roster []))) bad_request
    ∷ denied (at_home (sets ann 9 (roster (contact bare_bob (codes "both") ∷ contact bare_bob (codes "to") ∷ [])))) bad_request
    ∷ denied (at_home (sets ann 10 (roster (contact bare_bob (codes "friend") ∷ [])))) bad_request
    ∷ denied (at_home (sets bob 4 (roster (contact bare_bob (codes "both") ∷ [])))) forbidden
    ∷ []

-- an approval is a message, and so is its denial, without an id where it has none
abbrev pub approval_of : List ℕ → List ℕ → List ℕ → Tree
approval_of node jid allow = element (codes "message") client ((codes "from", codes "ann@a.example/1") ∷ (codes "to", service) ∷ [])
    (form (codes "#subscribe_authorization") (field (codes "node") node ∷ field (codes "subscriber_jid") jid ∷ field (codes "allow") allow ∷ []) ∷ [])

abbrev pub denied_message : Sent → Denial → Exchange
denied_message sent why = denied_as (codes "message") (codes "ann@a.example/1") sent why

abbrev pub approvals : List Exchange
approvals =
    asking
    ∷ denied_message (sends ann 2 (approval_of q bare_bob (codes "1"))) nothing_to_end
    ∷ done (sets bob 1 (subscribe bare_bob q)) (pending ∷ [])
    ∷ denied_message (sends ann 3 (approval_of q bare_bob (codes "perhaps"))) bad_request
    ∷ denied_message (sends ann 4 (approval_of q (codes "@h") (codes "1"))) bad_address
    ∷ denied_message (sends ann 5 (approval_of (codes "nope") bare_bob (codes "1"))) no_such_item
    ∷ denied_message (sends ann 6 (approval_of [] bare_bob (codes "1"))) (bad (codes "nodeid-required"))
    ∷ []

abbrev pub approvals_told : List Notice
approvals_told = question 2 1 ∷ []

-- ---- addresses

-- a target that is no address, one that isn't served, and a contact that is no address
abbrev pub addresses : List Exchange
addresses =
    denied (addressed (codes "@h") (gets ann 1 (get_items news))) bad_address
    ∷ denied (answered_by (codes "other.example") (gets ann 2 (get_items news))) not_here
    ∷ denied (answered_by (codes "bob@b.example/1") (gets ann 3 (get_items news))) not_here
    ∷ denied (at_home (sets ann 4 (roster (contact (codes "a@b@c") (codes "both") ∷ [])))) bad_address
    ∷ denied (at_home (sets ann 5 (roster (contact [] (codes "both") ∷ [])))) bad_address
    ∷ denied (sets ann 6 (element (codes "x") (codes "urn:q") [] [])) not_here
    ∷ denied (sets ann 7 (element (codes "query") (codes "http://jabber.org/protocol/disco#info") [] [])) unknown
    ∷ []

-- ---- what a collection doesn't have: each request for items names its own feature

abbrev pub unsupported_requests : List Exchange
unsupported_requests =
    done (sets ann 1 (create_with top (is_collection ∷ []))) []
    ∷ denied (sets ann 2 (publish top i1)) (unsupported (codes "publish"))
    ∷ denied (sets ann 3 (pubsub (part (codes "retract") (at_node top) (item i1 [] ∷ []) ∷ []))) (unsupported (codes "delete-items"))
    ∷ denied (gets ann 4 (get_items top)) (unsupported (codes "retrieve-items"))
    ∷ denied (sets ann 5 (owner (element (codes "purge") owner_ns (at_node top) [] ∷ []))) (unsupported (codes "purge-nodes"))
    ∷ []
