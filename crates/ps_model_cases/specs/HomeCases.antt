-- Personal nodes: who gets the account's presence, who is in a group of its roster, and what a resource that wants a node is told.
use Rattle.std.specs.Prelude.{ℕ, List, [], ◌∷◌, ◌++◌, None, codes}
use Rattle.std.specs.Fmt.{decimal}
use Rattle.ps_types.specs.Address.{jid_text}
use Rattle.ps_types.specs.Namespaces.{caps_ns, info_ns, roster_ns}
use Rattle.ps_types.specs.Print.{client, print}
use Rattle.ps_types.specs.Shape.{element}
use Rattle.ps_types.specs.Tree.{Tree, tree, none, words}
use Rattle.ps_types.specs.declared.entry.Notice.{Notice}
use Rattle.ps_types.specs.declared.jid.Jid.{Jid}
use Rattle.ps_model_cases.specs.Case.{Exchange, kept}
use Rattle.ps_model_cases.specs.Denials.{no_such_item, not_authorized}
use Rattle.ps_model_cases.specs.Handed.{event_of, from_ann, notice}
use Rattle.ps_model_cases.specs.Words.{User, ann, bob, bare_bob, service, to_bob, to_bob_1, at_home, at_time, sets, gets, sends, iq, done, shown, denied, field, create_with, publish, published, get_items, one_of, subscribe, subscribed}

-- ---- a personal node

abbrev pub t : List ℕ
t = codes "urn:t"

-- bob in the roster of ann
abbrev pub contact : List ℕ → List Tree → Tree
contact state groups = element (codes "query") roster_ns [] (element (codes "item") roster_ns ((codes "jid", bare_bob) ∷ (codes "subscription", state) ∷ []) groups ∷ [])

-- ann's publish of the item, and her roster
abbrev pub publishes : ℕ → List ℕ → Exchange
publishes number id = done (at_home (sets ann number (publish t id))) (published t id)

abbrev pub has_bob : ℕ → List ℕ → Exchange
has_bob number state = done (at_home (sets ann number (contact state []))) []

-- ---- a resource

-- present with capabilities
abbrev pub presence : User → List ℕ → Tree
presence user ver =
    element (codes "presence") client ((codes "from", user.address) ∷ []) (element (codes "c") caps_ns ((codes "hash", codes "sha-1") ∷ (codes "node", codes "http://c.example") ∷ (codes "ver", ver) ∷ []) [] ∷ [])

abbrev pub info_node : List ℕ → List (List ℕ × List ℕ)
info_node ver = (codes "node", codes "http://c.example#" ++ ver) ∷ []

abbrev pub info : List ℕ → List Tree → Tree
info ver kids = element (codes "query") info_ns (info_node ver) kids

-- the question what it can do, and the answer to the question of that id
abbrev pub asked : Jid → ℕ → ℕ → List ℕ → Notice
asked to place number ver = notice to place number (print (iq service (codes "n-" ++ decimal number) (jid_text to) (codes "get") (info ver [] ∷ [])))

abbrev pub answer : User → List ℕ → Tree → Tree
answer user id child = iq user.address id service (codes "result") (child ∷ [])

abbrev pub feature : List ℕ → Tree
feature var = element (codes "feature") info_ns ((codes "var", var) ∷ []) []

abbrev pub short : List ℕ
short = codes "AAAA"

abbrev pub bob_is_present : ℕ → Exchange
bob_is_present number = kept (sends bob number (presence bob short)) None

-- its hash isn't that, so it counts for this resource alone
abbrev pub bob_answers : ℕ → Exchange
bob_answers number = kept (sends bob number (answer bob (codes "n-1") (info short (feature (codes "urn:t+notify") ∷ [])))) None

abbrev pub asks_bob : ℕ → Notice
asks_bob place = asked to_bob_1 place 1 short

-- ---- the publish makes the node; who gets the account's presence reads it, and is given the last item when a resource comes to want it

abbrev pub second : ℕ
second = 1000000000

abbrev pub last : List Exchange
last =
    done (at_time second (at_home (sets ann 1 (publish t (codes "m"))))) (published t (codes "m"))
    ∷ has_bob 2 (codes "to")
    ∷ denied (at_home (gets bob 1 (get_items t))) (not_authorized (codes "presence-subscription-required"))
    ∷ has_bob 3 (codes "from")
    ∷ shown (at_home (gets bob 2 (get_items t))) (one_of t (codes "m"))
    ∷ bob_is_present 3
    ∷ bob_answers 4
    ∷ []

abbrev pub delay : List ℕ → Tree
delay stamp = element (codes "delay") (codes "urn:xmpp:delay") ((codes "stamp", stamp) ∷ []) []

abbrev pub last_told : List Notice
last_told = asks_bob 4 ∷ from_ann to_bob_1 5 2 (event_of t (codes "m") ∷ delay (codes "2001-09-09T01:46:40Z") ∷ []) ∷ []

-- ---- at `to` nothing, at `from` each item; beside a subscription one notice, and to the subscriber

abbrev pub wanting : List Exchange
wanting =
    publishes 1 (codes "m")
    ∷ bob_is_present 1
    ∷ bob_answers 2
    ∷ has_bob 2 (codes "to")
    ∷ publishes 3 (codes "x")
    ∷ has_bob 4 (codes "from")
    ∷ publishes 5 (codes "y")
    ∷ done (at_home (sets bob 3 (subscribe bare_bob t))) (subscribed bare_bob t)
    ∷ publishes 6 (codes "z")
    ∷ []

abbrev pub wanting_told : List Notice
wanting_told =
    asks_bob 2
    ∷ from_ann to_bob_1 7 2 (event_of t (codes "y") ∷ [])
    ∷ from_ann to_bob 8 3 (event_of t (codes "y") ∷ [])
    ∷ from_ann to_bob 9 4 (event_of t (codes "z") ∷ [])
    ∷ []

-- ---- who is in an allowed group reads, and another doesn't make a node

abbrev pub m : List ℕ
m = codes "urn:m"

abbrev pub group : List ℕ → Tree
group name = tree (codes "group") roster_ns [] (words name none)

abbrev pub in_groups : ℕ → List Tree → Exchange
in_groups number groups = done (at_home (sets ann number (contact (codes "both") groups))) []

abbrev pub groups : List Exchange
groups =
    done (at_home (sets ann 1 (create_with m (field (codes "access_model") (codes "roster") ∷ field (codes "roster_groups_allowed") (codes "h") ∷ [])))) []
    ∷ done (at_home (sets ann 2 (publish m (codes "i")))) (published m (codes "i"))
    ∷ in_groups 3 (group (codes "g") ∷ [])
    ∷ denied (at_home (gets bob 1 (get_items m))) (not_authorized (codes "not-in-roster-group"))
    ∷ in_groups 4 (group (codes "g") ∷ group (codes "h") ∷ [])
    ∷ shown (at_home (gets bob 2 (get_items m))) (one_of m (codes "i"))
    ∷ denied (at_home (sets bob 3 (publish (codes "urn:z") (codes "i")))) no_such_item
    ∷ []
