-- What is told of a node: an item byte for byte, a retraction, each kind of event, and delivery that is based on presence.
use Rattle.std.specs.Prelude.{ℕ, List, [], ◌∷◌, None, codes}
use Rattle.ps_types.specs.Namespaces.{event_ns, owner_ns}
use Rattle.ps_types.specs.Print.{client}
use Rattle.ps_types.specs.Shape.{element}
use Rattle.ps_types.specs.Tree.{Tree, tree, none, words}
use Rattle.ps_types.specs.declared.entry.Entry.TheVariants.{Gone}
use Rattle.ps_types.specs.declared.entry.Notice.{Notice}
use Rattle.ps_model_cases.specs.Case.{Exchange, boot, kept, own}
use Rattle.ps_model_cases.specs.Denials.{conflict, forbidden}
use Rattle.ps_model_cases.specs.Handed.{event, event_of, headline, notice, plain, retraction_of}
use Rattle.ps_model_cases.specs.Words.{bare_bob, bare_cid, to_bob_1, to_cid, cid, news, User, ann, bob, to_bob, sets, gets, sends, done, shown, denied, pubsub, owner, part, at_node, field, create, create_with, configure, delete, item, publish, publish_these, published, get_items, items_of, subscribe, subscribed}

-- ---- an item

-- another of ann's host
abbrev pub neighbour : User
neighbour = record { host = codes "a.example"; address = codes "cid@a.example/1" }

abbrev pub i1 : List ℕ
i1 = codes "i1"

abbrev pub hi : Tree
hi = item i1 (tree (codes "entry") (codes "urn:t") [] (words (codes "hi") none) ∷ [])

abbrev pub published_item : List Exchange
published_item =
    done (sets ann 1 (create news)) []
    ∷ denied (sets ann 2 (create news)) conflict
    ∷ done (sets bob 1 (subscribe bare_bob news)) (subscribed bare_bob news)
    ∷ done (sets ann 3 (publish_these news (hi ∷ []))) (published news i1)
    ∷ denied (sets neighbour 4 (publish_these news (hi ∷ []))) forbidden
    ∷ shown (gets neighbour 5 (get_items news)) (items_of news (hi ∷ []))
    ∷ []

abbrev pub item_line : List ℕ
item_line = codes "{\"a\":{\"from\":\"pubsub.example\",\"id\":\"n-1\",\"to\":\"bob@b.example\",\"type\":\"headline\"},\"c\":[{\"c\":[{\"a\":{\"node\":\"news\"},\"c\":[{\"a\":{\"id\":\"i1\"},\"c\":[{\"c\":[\"hi\"],\"n\":\"entry\",\"ns\":\"urn:t\"}],\"n\":\"item\"}],\"n\":\"items\"}],\"n\":\"event\",\"ns\":\"http://jabber.org/protocol/pubsub#event\"}],\"n\":\"message\"}"

abbrev pub item_notice : Notice
item_notice = notice to_bob 3 1 item_line

-- ---- each address gets one of its own, in the order of their octets, and those of one bare address have one count

abbrev pub addresses : List Exchange
addresses =
    done (sets ann 1 (create news)) []
    ∷ done (sets cid 1 (subscribe bare_cid news)) (subscribed bare_cid news)
    ∷ done (sets bob 2 (subscribe bob.address news)) (subscribed bob.address news)
    ∷ done (sets bob 3 (subscribe bare_bob news)) (subscribed bare_bob news)
    ∷ done (sets ann 2 (publish news i1)) (published news i1)
    ∷ []

abbrev pub addresses_told : List Notice
addresses_told =
    headline to_bob 5 1 (event_of news i1 ∷ [])
    ∷ headline to_bob_1 5 2 (event_of news i1 ∷ [])
    ∷ headline to_cid 5 1 (event_of news i1 ∷ [])
    ∷ []

-- ---- a retraction

abbrev pub retract : List ℕ → List (List ℕ × List ℕ) → Tree
retract id more = pubsub (part (codes "retract") ((codes "node", news) ∷ more) (part (codes "item") ((codes "id", id) ∷ []) [] ∷ []) ∷ [])

abbrev pub i2 : List ℕ
i2 = codes "i2"

-- told where the request asks for it
abbrev pub retracted : List Exchange
retracted =
    done (sets ann 1 (create_with news (field (codes "notify_retract") (codes "0") ∷ []))) []
    ∷ done (sets ann 2 (publish news i1)) (published news i1)
    ∷ done (sets ann 3 (publish news i2)) (published news i2)
    ∷ done (sets bob 1 (subscribe bare_bob news)) (subscribed bare_bob news)
    ∷ done (sets ann 4 (retract i1 ((codes "notify", codes "true") ∷ []))) []
    ∷ done (sets ann 5 (retract i2 [])) []
    ∷ shown (gets bob 2 (get_items news)) (items_of news [])
    ∷ []

abbrev pub retracted_told : List Notice
retracted_told = headline to_bob 5 1 (retraction_of news i1 ∷ []) ∷ []

-- ---- each kind of event

abbrev pub purge : Tree
purge = owner (element (codes "purge") owner_ns (at_node news) [] ∷ [])

abbrev pub each_kind : List Exchange
each_kind =
    done (sets ann 1 (create_with news (field (codes "notify_retract") (codes "1") ∷ field (codes "notify_config") (codes "1") ∷ field (codes "notify_delete") (codes "1") ∷ []))) []
    ∷ done (sets bob 1 (subscribe bare_bob news)) (subscribed bare_bob news)
    ∷ done (sets ann 2 (publish news i1)) (published news i1)
    ∷ done (sets ann 3 (retract i1 [])) []
    ∷ done (sets ann 4 purge) []
    ∷ done (sets ann 5 (configure news (field (codes "notification_type") (codes "normal") ∷ []))) []
    ∷ done (sets ann 6 (delete news)) []
    ∷ []

abbrev pub about : List ℕ → Tree
about name = event (element name event_ns (at_node news) [])

-- without a type, once the node's notices are normal
abbrev pub each_kind_told : List Notice
each_kind_told =
    headline to_bob 3 1 (event_of news i1 ∷ [])
    ∷ headline to_bob 4 2 (retraction_of news i1 ∷ [])
    ∷ headline to_bob 5 3 (about (codes "purge") ∷ [])
    ∷ plain to_bob 6 4 (about (codes "configuration") ∷ [])
    ∷ plain to_bob 7 5 (about (codes "delete") ∷ [])
    ∷ []

-- ---- while some resource of the subscriber is present, until the end of its host's stream or the next boot

abbrev pub present : ℕ → Exchange
present number = kept (sends bob number (element (codes "presence") client ((codes "from", codes "bob@b.example/1") ∷ []) [])) None

abbrev pub publishes : ℕ → List ℕ → Exchange
publishes number id = done (sets ann number (publish news id)) (published news id)

abbrev pub while_present : List Exchange
while_present =
    done (sets ann 1 (create_with news (field (codes "presence_based_delivery") (codes "1") ∷ []))) []
    ∷ done (sets bob 1 (subscribe bare_bob news)) (subscribed bare_bob news)
    ∷ publishes 2 (codes "a")
    ∷ present 2
    ∷ publishes 3 (codes "b")
    ∷ own (Gone (codes "b.example"))
    ∷ publishes 4 (codes "c")
    ∷ present 3
    ∷ publishes 5 (codes "d")
    ∷ own boot
    ∷ publishes 1 (codes "e")
    ∷ []

abbrev pub while_present_told : List Notice
while_present_told = headline to_bob 5 1 (event_of news (codes "b") ∷ []) ∷ headline to_bob 9 2 (event_of news (codes "d") ∷ []) ∷ []
