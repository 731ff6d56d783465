-- Collections: how far a subscription reaches, the header, the leaf's own access model, of two subscriptions the nearest; what is told of a new node; and what keeps a collection as it is.
use Rattle.std.specs.Prelude.{ℕ, List, [], ◌∷◌, ◌++◌, codes}
use Rattle.ps_types.specs.Namespaces.{data_ns, event_ns}
use Rattle.ps_types.specs.Shape.{element}
use Rattle.ps_types.specs.Tree.{Tree}
use Rattle.ps_types.specs.declared.entry.Notice.{Notice}
use Rattle.ps_model_cases.specs.Case.{Exchange}
use Rattle.ps_model_cases.specs.Denials.{no_such_item, not_acceptable}
use Rattle.ps_model_cases.specs.Forms.{form_shown}
use Rattle.ps_model_cases.specs.Handed.{event, event_of, from_collection, headline}
use Rattle.ps_model_cases.specs.Words.{ann, bob, cid, bare_bob, bare_cid, news, to_bob, to_cid, sets, gets, done, shown, denied, pubsub, part, owner, owner_part, at_node, of_subscriber, form, field, value, create, create_with, configure, get_configuration, delete, publish, published, subscribe, subscribed}

abbrev pub top : List ℕ
top = codes "top"

abbrev pub mid : List ℕ
mid = codes "mid"

abbrev pub leaf : List ℕ
leaf = codes "leaf"

abbrev pub is_collection : Tree
is_collection = field (codes "node_type") (codes "collection")

abbrev pub in_collection : List ℕ → Tree
in_collection name = field (codes "collection") name

-- `top` holds `mid`, and that holds `leaf`
abbrev pub made : List Exchange → List Exchange
made more =
    done (sets ann 1 (create_with top (is_collection ∷ []))) []
    ∷ done (sets ann 2 (create_with mid (is_collection ∷ in_collection top ∷ []))) []
    ∷ done (sets ann 3 (create_with leaf (in_collection mid ∷ []))) []
    ∷ more

abbrev pub publishes : ℕ → List ℕ → Exchange
publishes number id = done (sets ann number (publish leaf id)) (published leaf id)

abbrev pub subscribes : ℕ → List ℕ → Exchange
subscribes number node = done (sets bob number (subscribe bare_bob node)) (subscribed bare_bob node)

-- at depth all
abbrev pub reaches_all : ℕ → List ℕ → Exchange
reaches_all number node =
    done (sets bob number (pubsub (part (codes "options") (of_subscriber bare_bob node) (form (codes "#subscribe_options") (field (codes "subscription_depth") (codes "all") ∷ []) ∷ []) ∷ []))) []

-- ---- at depth 1 `top` doesn't reach `leaf`, at depth all it does, until `leaf` is closed

abbrev pub deep : List Exchange
deep =
    made (subscribes 1 top
    ∷ publishes 4 (codes "x")
    ∷ reaches_all 2 top
    ∷ publishes 5 (codes "y")
    ∷ done (sets ann 6 (configure leaf (field (codes "access_model") (codes "whitelist") ∷ []))) []
    ∷ publishes 7 (codes "z")
    ∷ [])

abbrev pub deep_told : List Notice
deep_told = headline to_bob 7 1 (event_of leaf (codes "y") ∷ from_collection top ∷ []) ∷ []

-- ---- of two the nearest

abbrev pub near : List Exchange
near = made (subscribes 1 top ∷ reaches_all 2 top ∷ subscribes 3 mid ∷ reaches_all 4 mid ∷ publishes 4 (codes "x") ∷ [])

abbrev pub near_told : List Notice
near_told = headline to_bob 8 1 (event_of leaf (codes "x") ∷ from_collection mid ∷ []) ∷ []

-- ---- after that a node goes into a collection as it is made and never moves, and a collection that holds nodes stays

abbrev pub n1 : List ℕ
n1 = codes "n1"

abbrev pub creates_in : ℕ → List ℕ → Exchange
creates_in number name = denied (sets ann number (create_with n1 (in_collection name ∷ []))) no_such_item

abbrev pub no_collection : Tree
no_collection = element (codes "field") data_ns ((codes "var", codes "pubsub#collection") ∷ []) (value [] ∷ [])

abbrev pub kept_together : List Exchange
kept_together =
    deep
    ++ done (sets ann 8 (create news)) []
    ∷ denied (sets ann 9 (create_with n1 (in_collection news ∷ []))) not_acceptable
    ∷ creates_in 10 (codes "nope")
    ∷ creates_in 11 n1
    ∷ denied (sets ann 12 (configure leaf (in_collection top ∷ []))) not_acceptable
    ∷ denied (sets ann 13 (configure leaf (no_collection ∷ []))) not_acceptable
    ∷ denied (sets ann 14 (delete mid)) not_acceptable
    ∷ done (sets ann 15 (delete leaf)) []
    ∷ done (sets ann 16 (delete mid)) []
    ∷ []

-- ---- a new node, for who subscribed to nodes: told of the node, and not of its items

abbrev pub n2 : List ℕ
n2 = codes "n2"

abbrev pub to_nodes : Tree
to_nodes =
    pubsub (part (codes "subscribe") (of_subscriber bare_cid mid) []
    ∷ part (codes "options") [] (form (codes "#subscribe_options") (field (codes "subscription_type") (codes "nodes") ∷ []) ∷ []) ∷ [])

abbrev pub new_node : List Exchange
new_node =
    made (done (sets cid 1 to_nodes) (subscribed bare_cid mid)
    ∷ done (sets ann 4 (create_with n2 (in_collection mid ∷ []))) []
    ∷ done (sets ann 5 (publish n2 (codes "x"))) (published n2 (codes "x"))
    ∷ denied (sets ann 6 (delete mid)) not_acceptable
    ∷ shown (gets ann 7 (get_configuration n2)) (owner (owner_part (codes "configure") (at_node n2) (form_shown mid ∷ []) ∷ []) ∷ [])
    ∷ [])

abbrev pub new_node_told : List Notice
new_node_told = headline to_cid 5 1 (event (element (codes "collection") event_ns (at_node mid) (element (codes "associate") event_ns (at_node n2) [] ∷ [])) ∷ []) ∷ []
