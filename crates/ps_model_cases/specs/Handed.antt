-- Notices of worked cases: what is handed out, printed as one line.
use Rattle.std.specs.Prelude.{ℕ, List, [], ◌∷◌, ◌++◌, codes}
use Rattle.std.specs.Fmt.{decimal}
use Rattle.ps_types.specs.Address.{jid_text}
use Rattle.ps_types.specs.Namespaces.{event_ns, headers_ns}
use Rattle.ps_types.specs.Print.{client, print}
use Rattle.ps_types.specs.Shape.{element}
use Rattle.ps_types.specs.Tree.{Tree, tree, none, words}
use Rattle.ps_types.specs.declared.entry.Notice.{Notice}
use Rattle.ps_types.specs.declared.jid.Jid.{Jid}
use Rattle.ps_model_cases.specs.Words.{at_node, payload, service}

-- a message from that address, with the id of the number, of a type or of none
abbrev pub message : List ℕ → Jid → ℕ → List ℕ → List Tree → List ℕ
message from to number type kids =
    print (element (codes "message") client ((codes "from", from) ∷ (codes "id", codes "n-" ++ decimal number) ∷ (codes "to", jid_text to) ∷ (codes "type", type) ∷ []) kids)

-- the notice of that number, made by the entry at that place
abbrev pub notice : Jid → ℕ → ℕ → List ℕ → Notice
notice to place number line = record { to = to; place = place; number = number; line = line }

-- the service's own, of type headline and of no type, and one of ann's account
abbrev pub headline : Jid → ℕ → ℕ → List Tree → Notice
headline to place number kids = notice to place number (message service to number (codes "headline") kids)

abbrev pub plain : Jid → ℕ → ℕ → List Tree → Notice
plain to place number kids = notice to place number (message service to number [] kids)

abbrev pub from_ann : Jid → ℕ → ℕ → List Tree → Notice
from_ann to place number kids = notice to place number (message (codes "ann@a.example") to number (codes "headline") kids)

-- ---- what stands in it

abbrev pub event : Tree → Tree
event child = element (codes "event") event_ns [] (child ∷ [])

abbrev pub items_in : List ℕ → List Tree → Tree
items_in node kids = event (element (codes "items") event_ns (at_node node) kids)

-- the item with the payload
abbrev pub event_of : List ℕ → List ℕ → Tree
event_of node id = items_in node (element (codes "item") event_ns ((codes "id", id) ∷ []) (payload ∷ []) ∷ [])

abbrev pub retraction_of : List ℕ → List ℕ → Tree
retraction_of node id = items_in node (element (codes "retract") event_ns ((codes "id", id) ∷ []) [] ∷ [])

abbrev pub from_collection : List ℕ → Tree
from_collection name =
    element (codes "headers") headers_ns [] (tree (codes "header") headers_ns (record { name = codes "name"; value = codes "Collection" } ∷ []) (words name none) ∷ [])
