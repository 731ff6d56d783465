-- What the service and an account say of themselves, and which nodes and items are listed to whom.
use Rattle.std.specs.Prelude.{ℕ, List, [], ◌∷◌, ◌++◌, codes}
use Rattle.ps_types.specs.Namespaces.{info_ns, items_ns}
use Rattle.ps_types.specs.Shape.{element}
use Rattle.ps_types.specs.Tree.{Tree}
use Rattle.ps_model_cases.specs.Case.{Exchange}
use Rattle.ps_model_cases.specs.CollectionCases.{in_collection, is_collection, leaf, top}
use Rattle.ps_model_cases.specs.Denials.{closed_node, no_such_item}
use Rattle.ps_model_cases.specs.HomeCases.{feature, has_bob, t}
use Rattle.ps_model_cases.specs.NodeCases.{info, nodes}
use Rattle.ps_model_cases.specs.NoticeCases.{i1, i2}
use Rattle.ps_model_cases.specs.Words.{ann, bob, news, service, at_home, sets, gets, done, shown, denied, at_node, field, create, create_with, publish, published}

-- ---- without a node

abbrev pub entity : List ℕ → Tree
entity type = element (codes "identity") info_ns ((codes "category", codes "pubsub") ∷ (codes "type", type) ∷ []) []

-- a feature of XEP-0060
abbrev pub marked : List ℕ → Tree
marked name = feature (codes "http://jabber.org/protocol/pubsub#" ++ name)

abbrev pub first_features : List Tree
first_features =
    feature (codes "http://jabber.org/protocol/disco#info")
    ∷ feature (codes "http://jabber.org/protocol/disco#items")
    ∷ feature (codes "http://jabber.org/protocol/pubsub")
    ∷ []

abbrev pub service_features : List Tree
service_features =
    marked (codes "access-authorize") ∷ marked (codes "access-open") ∷ marked (codes "access-presence") ∷
    marked (codes "access-roster") ∷ marked (codes "access-whitelist") ∷ marked (codes "collections") ∷
    marked (codes "config-node") ∷ marked (codes "config-node-max") ∷ marked (codes "create-and-configure") ∷
    marked (codes "create-nodes") ∷ marked (codes "delete-items") ∷ marked (codes "delete-nodes") ∷
    marked (codes "item-ids") ∷ marked (codes "last-published") ∷ marked (codes "manage-subscriptions") ∷
    marked (codes "member-affiliation") ∷ marked (codes "modify-affiliations") ∷
    marked (codes "outcast-affiliation") ∷ marked (codes "persistent-items") ∷ marked (codes "publish") ∷
    marked (codes "publish-only-affiliation") ∷ marked (codes "publish-options") ∷
    marked (codes "publisher-affiliation") ∷ marked (codes "purge-nodes") ∷ marked (codes "retract-items") ∷
    marked (codes "retrieve-affiliations") ∷ marked (codes "retrieve-items") ∷
    marked (codes "retrieve-subscriptions") ∷ marked (codes "subscribe") ∷ marked (codes "subscription-options") ∷ []

-- an account makes nodes for a publish, and filters what it tells
abbrev pub account_features : List Tree
account_features =
    marked (codes "access-authorize") ∷ marked (codes "access-open") ∷ marked (codes "access-presence") ∷
    marked (codes "access-roster") ∷ marked (codes "access-whitelist") ∷ marked (codes "auto-create") ∷
    marked (codes "collections") ∷ marked (codes "config-node") ∷ marked (codes "config-node-max") ∷
    marked (codes "create-and-configure") ∷ marked (codes "create-nodes") ∷ marked (codes "delete-items") ∷
    marked (codes "delete-nodes") ∷ marked (codes "filtered-notifications") ∷ marked (codes "item-ids") ∷
    marked (codes "last-published") ∷ marked (codes "manage-subscriptions") ∷ marked (codes "member-affiliation") ∷
    marked (codes "modify-affiliations") ∷ marked (codes "outcast-affiliation") ∷ marked (codes "persistent-items") ∷
    marked (codes "publish") ∷ marked (codes "publish-only-affiliation") ∷ marked (codes "publish-options") ∷
    marked (codes "publisher-affiliation") ∷ marked (codes "purge-nodes") ∷ marked (codes "retract-items") ∷
    marked (codes "retrieve-affiliations") ∷ marked (codes "retrieve-items") ∷
    marked (codes "retrieve-subscriptions") ∷ marked (codes "subscribe") ∷ marked (codes "subscription-options") ∷ []

abbrev pub entities : List Exchange
entities =
    shown (gets bob 1 (info [] [])) (info [] (entity (codes "service") ∷ first_features ++ service_features) ∷ [])
    ∷ shown (at_home (gets bob 2 (info [] []))) (info [] (entity (codes "pep") ∷ first_features ++ account_features) ∷ [])
    ∷ denied (gets bob 3 (info (at_node news) [])) no_such_item
    ∷ []

-- ---- nodes and items

abbrev pub listed : List (List ℕ × List ℕ) → List Tree → List Tree
listed attrs rows = element (codes "query") items_ns attrs rows ∷ []

abbrev pub get_listed : List ℕ → Tree
get_listed node = element (codes "query") items_ns (at_node node) []

abbrev pub node_row : List ℕ → List ℕ → Tree
node_row jid node = element (codes "item") items_ns ((codes "jid", jid) ∷ (codes "node", node) ∷ []) []

abbrev pub item_row : List ℕ → Tree
item_row id = element (codes "item") items_ns ((codes "jid", service) ∷ (codes "name", id) ∷ []) []

-- a collection has nodes and a leaf has items; who may not read is told why, but the node is listed
abbrev pub lists : List Exchange
lists =
    done (sets ann 1 (create_with top (is_collection ∷ []))) []
    ∷ done (sets ann 2 (create_with leaf (in_collection top ∷ field (codes "access_model") (codes "whitelist") ∷ []))) []
    ∷ done (sets ann 3 (create news)) []
    ∷ done (sets ann 4 (publish news i2)) (published news i2)
    ∷ done (sets ann 5 (publish news i1)) (published news i1)
    ∷ shown (gets bob 1 (get_listed news)) (listed (at_node news) (item_row i2 ∷ item_row i1 ∷ []))
    ∷ shown (gets bob 2 (get_listed top)) (listed (at_node top) (node_row service leaf ∷ []))
    ∷ denied (gets bob 3 (get_listed leaf)) closed_node
    ∷ shown (gets bob 4 (nodes [])) (listed [] (node_row service top ∷ node_row service leaf ∷ node_row service news ∷ []))
    ∷ denied (gets bob 5 (get_listed (codes "nope"))) no_such_item
    ∷ shown (gets bob 6 (info (at_node top) [])) (info (at_node top) (entity (codes "collection") ∷ feature (codes "http://jabber.org/protocol/pubsub") ∷ []) ∷ [])
    ∷ []

abbrev pub home : List ℕ
home = codes "ann@a.example"

abbrev pub o : List ℕ
o = codes "urn:o"

-- of an account those alone that the sender may read
abbrev pub at_account : List Exchange
at_account =
    done (at_home (sets ann 1 (create t))) []
    ∷ done (at_home (sets ann 2 (create_with o (field (codes "access_model") (codes "open") ∷ [])))) []
    ∷ shown (at_home (gets bob 1 (nodes []))) (listed [] (node_row home o ∷ []))
    ∷ shown (at_home (gets ann 3 (nodes []))) (listed [] (node_row home t ∷ node_row home o ∷ []))
    ∷ has_bob 4 (codes "from")
    ∷ shown (at_home (gets bob 2 (nodes []))) (listed [] (node_row home t ∷ node_row home o ∷ []))
    ∷ []
