-- Nodes and their items: ids that are made, what an item must have, who owns, who subscribes for whom, configurations, and discovery.
use Rattle.std.specs.Prelude.{ℕ, ◌-◌, List, [], ◌∷◌, codes, replicate}
use Rattle.ps_types.specs.Namespaces.{info_ns, items_ns}
use Rattle.ps_types.specs.Shape.{element}
use Rattle.ps_types.specs.Tree.{Tree, tree, none, words}
use Rattle.ps_model_cases.specs.Case.{Exchange}
use Rattle.ps_model_cases.specs.Denials.{bad, forbidden, no_such_item, not_acceptable, nothing_to_end, refused_as, unsupported}
use Rattle.ps_model_cases.specs.Forms.{form_shown}
use Rattle.ps_model_cases.specs.Words.{ann, bob, cid, bare_bob, bare_cid, news, service, sets, gets, done, shown, denied, pubsub, part, owner, owner_part, at_node, field, create, create_with, get_configuration, payload, item, publish, publish_these, published, get_items, items_of, one_of, subscribe, affiliation, affiliate}

-- ---- ids are made in order, and the oldest item goes

abbrev pub unnamed : List ℕ → Tree
unnamed node = publish_these node (part (codes "item") [] (payload ∷ []) ∷ [])

abbrev pub one : List ℕ
one = codes "one"

abbrev pub ids : List Exchange
ids =
    done (sets ann 1 (create news)) []
    ∷ done (sets ann 2 (unnamed news)) (published news (codes "auto-1-ann@a.example"))
    ∷ done (sets ann 3 (unnamed news)) (published news (codes "auto-2-ann@a.example"))
    ∷ shown (gets bob 1 (get_items news)) (items_of news (item (codes "auto-1-ann@a.example") (payload ∷ []) ∷ item (codes "auto-2-ann@a.example") (payload ∷ []) ∷ []))
    ∷ done (sets ann 4 (create_with one (field (codes "max_items") (codes "1") ∷ []))) []
    ∷ done (sets ann 5 (publish one (codes "x"))) (published one (codes "x"))
    ∷ done (sets ann 6 (publish one (codes "y"))) (published one (codes "y"))
    ∷ shown (gets ann 7 (get_items one)) (one_of one (codes "y"))
    ∷ []

-- ---- what an item must have, by the node's configuration; a collection takes none, and a missing node is found first

abbrev pub silent : List ℕ
silent = codes "silent"

abbrev pub top : List ℕ
top = codes "top"

abbrev pub i : List ℕ
i = codes "i"

-- an item whose payload is printed in so many bytes, 27 of them round its text
abbrev pub publish_big : ℕ → Tree
publish_big bytes = publish_these news (item i (tree (codes "e") (codes "u") [] (words (replicate (bytes - 27) 97) none) ∷ []) ∷ [])

abbrev pub items : List Exchange
items =
    done (sets ann 1 (create news)) []
    ∷ denied (sets ann 2 (publish_these news [])) (bad (codes "item-required"))
    ∷ denied (sets ann 3 (publish_these news (item i [] ∷ []))) (bad (codes "payload-required"))
    ∷ denied (sets ann 4 (publish_these news (item i (payload ∷ payload ∷ []) ∷ []))) (bad (codes "invalid-payload"))
    ∷ denied (sets ann 5 (publish_big 65537)) (refused_as (codes "payload-too-big"))
    ∷ done (sets ann 6 (publish_big 65536)) (published news i)
    ∷ done (sets ann 7 (create_with silent (field (codes "persist_items") (codes "0") ∷ field (codes "deliver_payloads") (codes "0") ∷ []))) []
    ∷ denied (sets ann 8 (publish silent i)) (bad (codes "item-forbidden"))
    ∷ done (sets ann 9 (publish_these silent [])) (publish_these silent [] ∷ [])
    ∷ done (sets ann 10 (create_with top (field (codes "node_type") (codes "collection") ∷ []))) []
    ∷ denied (sets ann 11 (publish top i)) (unsupported (codes "publish"))
    ∷ denied (sets ann 12 (publish (codes "nope") i)) no_such_item
    ∷ []

-- ---- the last owner can't go; one who makes another first may go, and owns no more

abbrev pub ann_is_none : Tree
ann_is_none = affiliation (codes "ann@a.example") (codes "none")

abbrev pub owners : List Exchange
owners =
    done (sets ann 1 (create news)) []
    ∷ denied (sets ann 2 (affiliate news (ann_is_none ∷ []))) not_acceptable
    ∷ done (sets ann 3 (affiliate news (affiliation bare_bob (codes "owner") ∷ ann_is_none ∷ []))) []
    ∷ denied (gets ann 4 (get_configuration news)) forbidden
    ∷ shown (gets bob 1 (get_configuration news)) (owner (owner_part (codes "configure") (at_node news) (form_shown [] ∷ []) ∷ []) ∷ [])
    ∷ []

-- ---- one can't end what isn't there, nor name a subscription by its id, nor speak for others

abbrev pub unsubscribe : List (List ℕ × List ℕ) → Tree
unsubscribe more = pubsub (part (codes "unsubscribe") ((codes "jid", bare_bob) ∷ (codes "node", news) ∷ more) [] ∷ [])

abbrev pub others : List Exchange
others =
    done (sets ann 1 (create news)) []
    ∷ denied (sets bob 1 (unsubscribe [])) nothing_to_end
    ∷ denied (sets bob 2 (unsubscribe ((codes "subid", codes "1") ∷ []))) (refused_as (codes "invalid-subid"))
    ∷ denied (sets cid 3 (unsubscribe [])) forbidden
    ∷ denied (sets bob 4 (subscribe bare_cid news)) (bad (codes "invalid-jid"))
    ∷ []

-- ---- its owner is shown the seventeen fields, and another is forbidden

abbrev pub configuration : List Exchange
configuration =
    done (sets ann 1 (create news)) []
    ∷ shown (gets ann 2 (get_configuration news)) (owner (owner_part (codes "configure") (at_node news) (form_shown [] ∷ []) ∷ []) ∷ [])
    ∷ denied (gets bob 1 (get_configuration news)) forbidden
    ∷ []

-- ---- numbers out of range, and node names that are missing or too long

abbrev pub keeping : List ℕ → Tree
keeping most = create_with (codes "p") (field (codes "max_items") most ∷ [])

abbrev pub numbers : List Exchange
numbers =
    denied (sets ann 1 (keeping (codes "0"))) not_acceptable
    ∷ done (sets ann 2 (keeping (codes "12"))) []
    ∷ denied (gets ann 3 (get_items [])) (bad (codes "nodeid-required"))
    ∷ denied (sets ann 4 (create [])) (refused_as (codes "nodeid-required"))
    ∷ denied (sets ann 5 (create (replicate 513 97))) not_acceptable
    ∷ []

-- ---- what a node is, and which nodes there are

abbrev pub info : List (List ℕ × List ℕ) → List Tree → Tree
info attrs kids = element (codes "query") info_ns attrs kids

abbrev pub nodes : List Tree → Tree
nodes kids = element (codes "query") items_ns [] kids

abbrev pub discovery : List Exchange
discovery =
    done (sets ann 1 (create news)) []
    ∷ shown (gets bob 1 (info (at_node news) []))
    (info (at_node news) (element (codes "identity") info_ns ((codes "category", codes "pubsub") ∷ (codes "type", codes "leaf") ∷ []) []
    ∷ element (codes "feature") info_ns ((codes "var", codes "http://jabber.org/protocol/pubsub") ∷ []) [] ∷ []) ∷ [])
    ∷ shown (gets bob 2 (nodes [])) (nodes (element (codes "item") items_ns ((codes "jid", service) ∷ (codes "node", news) ∷ []) [] ∷ []) ∷ [])
    ∷ []
