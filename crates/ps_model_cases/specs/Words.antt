-- Lines, replies and trees in short: the service is pubsub.example, its users are of a.example and b.example.
use Rattle.std.specs.Prelude.{ℕ, Bool, true, false, List, [], ◌∷◌, ◌++◌, Option, Some, None, codes}
use Rattle.std.specs.Fmt.{decimal}
use Rattle.ps_types.specs.Namespaces.{pubsub_ns, owner_ns, data_ns}
use Rattle.ps_types.specs.Print.{client}
use Rattle.ps_types.specs.Shape.{element}
use Rattle.ps_types.specs.Tree.{Tree, tree, words, none}
use Rattle.ps_types.specs.declared.jid.Jid.{Jid}
use Rattle.ps_model_cases.specs.Case.{Exchange, Sent, kept, answered}

abbrev pub service : List ℕ
service = codes "pubsub.example"

-- ---- who takes part

-- the host of the stream, and the address that is sent from
pub record User : Type 0 where
  pub host : List ℕ
  pub address : List ℕ

abbrev pub of_b : List ℕ → User
of_b address = record { host = codes "b.example"; address = address }

abbrev pub ann : User
ann = record { host = codes "a.example"; address = codes "ann@a.example/1" }

abbrev pub bob : User
bob = of_b (codes "bob@b.example/1")

abbrev pub cid : User
cid = of_b (codes "cid@b.example/1")

abbrev pub dot : User
dot = of_b (codes "dot@b.example/1")

abbrev pub alf : User
alf = of_b (codes "alf@b.example/1")

abbrev pub bare_bob : List ℕ
bare_bob = codes "bob@b.example"

abbrev pub bare_cid : List ℕ
bare_cid = codes "cid@b.example"

-- as addresses that notices are to
abbrev pub to_ann : Jid
to_ann = record { local = codes "ann"; host = codes "a.example"; resource = [] }

abbrev pub to_b : List ℕ → List ℕ → Jid
to_b local resource = record { local = local; host = codes "b.example"; resource = resource }

abbrev pub to_bob : Jid
to_bob = to_b (codes "bob") []

abbrev pub to_bob_1 : Jid
to_bob_1 = to_b (codes "bob") (codes "1")

abbrev pub to_cid : Jid
to_cid = to_b (codes "cid") []

-- ---- what they ask

-- an iq: its sender, number and moment, whether the journal is full, its `to`, whose answer it gets, its type and its one child
pub record Iq : Type 0 where
  pub user : User
  pub number : ℕ
  pub moment : Option ℕ
  pub full : Bool
  pub to : List ℕ
  pub from : List ℕ
  pub type : List ℕ
  pub child : Tree

abbrev pub iq : List ℕ → List ℕ → List ℕ → List ℕ → List Tree → Tree
iq from id to type kids = element (codes "iq") client ((codes "from", from) ∷ (codes "id", id) ∷ (codes "to", to) ∷ (codes "type", type) ∷ []) kids

-- its id is its number
abbrev pub sent_by : Iq → Sent
sent_by q = record { host = q.user.host; number = q.number; moment = q.moment; full = q.full; tree = iq q.user.address (decimal q.number) q.to q.type (q.child ∷ []) }

abbrev pub sets : User → ℕ → Tree → Iq
sets user number child = record { user = user; number = number; moment = None; full = false; to = service; from = service; type = codes "set"; child = child }

abbrev pub gets : User → ℕ → Tree → Iq
gets user number child = record (sets user number child) { type = codes "get" }

-- the same to the account of ann
abbrev pub at_home : Iq → Iq
at_home q = record q { to = codes "ann@a.example"; from = codes "ann@a.example" }

abbrev pub at_time : ℕ → Iq → Iq
at_time moment q = record q { moment = Some moment }

-- the same where the journal has no room
abbrev pub without_room : Iq → Iq
without_room q = record q { full = true }

-- a stanza of another kind
abbrev pub sends : User → ℕ → Tree → Sent
sends user number t = record { host = user.host; number = number; moment = None; full = false; tree = t }

-- ---- what they are answered

abbrev pub reply : Iq → List ℕ → List Tree → Option Tree
reply q type kids = Some (iq q.from (decimal q.number) q.user.address type kids)

-- accepted and kept; accepted, where nothing is kept; and denied
abbrev pub done : Iq → List Tree → Exchange
done q kids = kept (sent_by q) (reply q (codes "result") kids)

abbrev pub shown : Iq → List Tree → Exchange
shown q kids = answered (sent_by q) (reply q (codes "result") kids)

-- the type of an error and what stands in it
abbrev pub Denial : Type 0
Denial = List ℕ × List Tree

abbrev pub error_of : Denial → Tree
error_of (type, kids) = element (codes "error") client ((codes "type", type) ∷ []) kids

abbrev pub denied : Iq → Denial → Exchange
denied q why = answered (sent_by q) (reply q (codes "error") (error_of why ∷ []))

-- a stanza of another kind is denied by one of its name, to that address
abbrev pub denied_as : List ℕ → List ℕ → Sent → Denial → Exchange
denied_as name to sent why =
    answered sent (Some (element name client ((codes "from", service) ∷ (codes "to", to) ∷ (codes "type", codes "error") ∷ []) (error_of why ∷ [])))

-- ---- `pubsub` and its parts

abbrev pub pubsub : List Tree → Tree
pubsub kids = element (codes "pubsub") pubsub_ns [] kids

abbrev pub owner : List Tree → Tree
owner kids = element (codes "pubsub") owner_ns [] kids

abbrev pub part : List ℕ → List (List ℕ × List ℕ) → List Tree → Tree
part name attrs kids = element name pubsub_ns attrs kids

abbrev pub owner_part : List ℕ → List (List ℕ × List ℕ) → List Tree → Tree
owner_part name attrs kids = element name owner_ns attrs kids

abbrev pub at_node : List ℕ → List (List ℕ × List ℕ)
at_node node = (codes "node", node) ∷ []

-- a submitted form with one value for each field
abbrev pub value : List ℕ → Tree
value text = tree (codes "value") data_ns [] (words text none)

abbrev pub field : List ℕ → List ℕ → Tree
field var text = element (codes "field") data_ns ((codes "var", codes "pubsub#" ++ var) ∷ []) (value text ∷ [])

abbrev pub form : List ℕ → List Tree → Tree
form type fields = element (codes "x") data_ns ((codes "type", codes "submit") ∷ []) (element (codes "field") data_ns ((codes "var", codes "FORM_TYPE") ∷ []) (value (pubsub_ns ++ type) ∷ []) ∷ fields)

-- ---- nodes and items

abbrev pub news : List ℕ
news = codes "news"

-- `create` without a configuration, and with one
abbrev pub create : List ℕ → Tree
create node = pubsub (part (codes "create") (at_node node) [] ∷ [])

abbrev pub create_with : List ℕ → List Tree → Tree
create_with node fields = pubsub (part (codes "create") (at_node node) [] ∷ part (codes "configure") [] (form (codes "#node_config") fields ∷ []) ∷ [])

abbrev pub configure : List ℕ → List Tree → Tree
configure node fields = owner (owner_part (codes "configure") (at_node node) (form (codes "#node_config") fields ∷ []) ∷ [])

abbrev pub get_configuration : List ℕ → Tree
get_configuration node = owner (owner_part (codes "configure") (at_node node) [] ∷ [])

abbrev pub delete : List ℕ → Tree
delete node = owner (owner_part (codes "delete") (at_node node) [] ∷ [])

abbrev pub payload : Tree
payload = tree (codes "entry") (codes "urn:t") [] none

abbrev pub item : List ℕ → List Tree → Tree
item id kids = part (codes "item") ((codes "id", id) ∷ []) kids

abbrev pub publish_these : List ℕ → List Tree → Tree
publish_these node items = pubsub (part (codes "publish") (at_node node) items ∷ [])

-- one item with the payload, and its answer
abbrev pub publish : List ℕ → List ℕ → Tree
publish node id = publish_these node (item id (payload ∷ []) ∷ [])

abbrev pub published : List ℕ → List ℕ → List Tree
published node id = publish_these node (item id [] ∷ []) ∷ []

abbrev pub get_items : List ℕ → Tree
get_items node = pubsub (part (codes "items") (at_node node) [] ∷ [])

abbrev pub items_of : List ℕ → List Tree → List Tree
items_of node items = pubsub (part (codes "items") (at_node node) items ∷ []) ∷ []

abbrev pub one_of : List ℕ → List ℕ → List Tree
one_of node id = items_of node (item id (payload ∷ []) ∷ [])

-- ---- subscriptions and affiliations

abbrev pub of_subscriber : List ℕ → List ℕ → List (List ℕ × List ℕ)
of_subscriber jid node = (codes "jid", jid) ∷ (codes "node", node) ∷ []

abbrev pub subscribe : List ℕ → List ℕ → Tree
subscribe jid node = pubsub (part (codes "subscribe") (of_subscriber jid node) [] ∷ [])

abbrev pub subscription : List ℕ → List ℕ → List ℕ → Tree
subscription jid node state = part (codes "subscription") ((codes "jid", jid) ∷ (codes "node", node) ∷ (codes "subscription", state) ∷ []) []

abbrev pub subscribed : List ℕ → List ℕ → List Tree
subscribed jid node = pubsub (subscription jid node (codes "subscribed") ∷ []) ∷ []

abbrev pub affiliation : List ℕ → List ℕ → Tree
affiliation jid affil = owner_part (codes "affiliation") ((codes "affiliation", affil) ∷ (codes "jid", jid) ∷ []) []

abbrev pub affiliate : List ℕ → List Tree → Tree
affiliate node rows = owner (owner_part (codes "affiliations") (at_node node) rows ∷ [])
