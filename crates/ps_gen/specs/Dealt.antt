-- The stanzas that a rehearsal deals.
use Rattle.std.specs.Prelude.{ℕ, ◌+◌, ◌*◌, ◌/◌, ◌%◌, ◌==◌, List, [], ◌∷◌, ◌++◌, get_or, codes, if◌then◌else◌}
use Rattle.std.specs.Fmt.{decimal}
use Rattle.ps_types.specs.Namespaces.{pubsub_ns, owner_ns}
use Rattle.ps_types.specs.Print.{client}
use Rattle.ps_types.specs.Shape.{attrs_with, element, holding}
use Rattle.ps_types.specs.Tree.{Tree, tree, Nodes, none, words}
use Rattle.ps_gen.specs.declared.dealt.Generated.{Generated}
use Rattle.ps_gen.specs.declared.kind.Kind.{Kind}
use Rattle.ps_gen.specs.declared.kind.Kind.TheVariants.{Create, Publish, Subscribe, Items, Unsubscribe, Retract, Delete}

-- ---- the number drawn, and what it says

abbrev pub drawn : ℕ → ℕ → ℕ
drawn seed k = ((seed % 1000003) * 31 + k * 7919) % 1000003

-- the hosts take turns
abbrev pub host_name : ℕ → List ℕ
host_name k = if k % 2 == 0 then codes "a.example" else codes "b.example"

abbrev pub kinds : List Kind
kinds = Create ∷ Publish ∷ Publish ∷ Subscribe ∷ Items ∷ Unsubscribe ∷ Retract ∷ Delete ∷ []

abbrev pub kind_of : ℕ → Kind
kind_of v = get_or kinds (v % 8) Delete

-- one of eight nodes of the host
abbrev pub node_of : List ℕ → ℕ → List ℕ
node_of host v = host ++ codes "-" ++ decimal (v / 8 % 8)

-- one of four accounts of the host; it asks from one resource
abbrev pub who_of : List ℕ → ℕ → List ℕ
who_of host v = codes "u" ++ decimal (v / 64 % 4) ++ codes "@" ++ host

abbrev pub sender_of : List ℕ → ℕ → List ℕ
sender_of host v = who_of host v ++ codes "/r"

-- ---- the trees of requests

abbrev pub holds : List ℕ → Tree → Tree
holds ns part = element (codes "pubsub") ns [] (part ∷ [])

abbrev pub at_node : List ℕ → List (List ℕ × List ℕ)
at_node node = (codes "node", node) ∷ []

abbrev pub of_subscriber : List ℕ → List ℕ → List (List ℕ × List ℕ)
of_subscriber who node = (codes "jid", who) ∷ (codes "node", node) ∷ []

-- an item, and its payload
abbrev pub item : ℕ → Nodes → Tree
item v kids = tree (codes "item") pubsub_ns (attrs_with ((codes "id", codes "i" ++ decimal (v % 5)) ∷ [])) kids

abbrev pub entry : ℕ → Tree
entry v = tree (codes "entry") (codes "urn:t") [] (words (decimal v) none)

abbrev pub about_node : List ℕ → List ℕ → List ℕ → Tree
about_node ns name node = holds ns (element name ns (at_node node) [])

abbrev pub about_item : List ℕ → List ℕ → ℕ → Nodes → Tree
about_item name node v kids = holds pubsub_ns (element name pubsub_ns (at_node node) (item v kids ∷ []))

abbrev pub about_subscriber : List ℕ → List ℕ → List ℕ → Tree
about_subscriber name who node = holds pubsub_ns (element name pubsub_ns (of_subscriber who node) [])

abbrev pub asked : Kind → List ℕ → List ℕ → ℕ → Tree
asked Create who node v = about_node pubsub_ns (codes "create") node
asked Publish who node v = about_item (codes "publish") node v (holding (entry v ∷ []))
asked Subscribe who node v = about_subscriber (codes "subscribe") who node
asked Items who node v = about_node pubsub_ns (codes "items") node
asked Unsubscribe who node v = about_subscriber (codes "unsubscribe") who node
asked Retract who node v = about_item (codes "retract") node v none
asked Delete who node v = about_node owner_ns (codes "delete") node

abbrev pub type_of : Kind → List ℕ
type_of Create = codes "set"
type_of Publish = codes "set"
type_of Subscribe = codes "set"
type_of Items = codes "get"
type_of Unsubscribe = codes "set"
type_of Retract = codes "set"
type_of Delete = codes "set"

-- ---- the stanza

-- an iq to the service
abbrev pub iq : List ℕ → List ℕ → List ℕ → Tree → Tree
iq from id type child =
    element (codes "iq") client ((codes "from", from) ∷ (codes "id", id) ∷ (codes "to", codes "pubsub.example") ∷ (codes "type", type) ∷ []) (child ∷ [])

-- of a host, with its place as its id, at the number drawn
abbrev pub stanza_of : List ℕ → ℕ → ℕ → Tree
stanza_of host k v = iq (sender_of host v) (decimal k) (type_of (kind_of v)) (asked (kind_of v) (who_of host v) (node_of host v) v)

abbrev pub generated : ℕ → ℕ → Generated
generated seed k = record { host = k % 2; tree = stanza_of (host_name k) k (drawn seed k) }
