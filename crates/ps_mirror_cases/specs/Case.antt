-- A node that keeps two items at most, and a mirror of it.
use Rattle.std.specs.Prelude.{◌≡◌, ℕ, ◌<◌, ◌^◌, true, List, [], ◌∷◌, length, map, Some, None, codes}
use Rattle.std.specs.Fmt.{decimal}
use Rattle.ps_types.specs.Defaults.{service_config}
use Rattle.ps_types.specs.Lines.{joined, lines_of}
use Rattle.ps_types.specs.Namespaces.{data_ns, pubsub_ns}
use Rattle.ps_types.specs.Print.{client}
use Rattle.ps_types.specs.Shape.{element}
use Rattle.ps_types.specs.Tree.{Tree, tree, none, words}
use Rattle.ps_types.specs.declared.config.NodeConfig.{NodeConfig}
use Rattle.ps_types.specs.declared.entry.Entry.{Entry}
use Rattle.ps_types.specs.declared.entry.Entry.TheVariants.{Boot, Change}
use Rattle.ps_types.specs.declared.entry.Notice.{Notice}
use Rattle.ps_types.specs.declared.jid.Jid.{Jid}
use Rattle.ps_types.specs.declared.node.NodeKey.{NodeKey}
use Rattle.ps_model.specs.Replay.{replay}
use Rattle.ps_mirror_laws.specs.Laws.{HasInOrder, IsHeard, held, notices_to}
use Rattle.ps_mirror.specs.Report.{copied_of}
use Rattle.ps_mirror.specs.declared.copied.Copied.{Copied}

abbrev pub service : Jid
service = record { local = []; host = codes "pubsub.example"; resource = [] }

abbrev pub news : NodeKey
news = record { service = service; name = codes "news" }

abbrev pub bob : Jid
bob = record { local = codes "bob"; host = codes "b.example"; resource = [] }

abbrev pub config : NodeConfig
config = record service_config { notify_retract = true }

abbrev pub asks : List ℕ → ℕ → List Tree → Tree
asks from number kids =
    element (codes "iq") client ((codes "from", from) ∷ (codes "id", decimal number) ∷ (codes "to", codes "pubsub.example") ∷ (codes "type", codes "set") ∷ [])
    (element (codes "pubsub") pubsub_ns [] kids ∷ [])

abbrev pub part : List ℕ → List (List ℕ × List ℕ) → List Tree → Tree
part name attrs kids = element name pubsub_ns attrs kids

abbrev pub field : List ℕ → List ℕ → Tree
field var text = element (codes "field") data_ns ((codes "var", var) ∷ []) (tree (codes "value") data_ns [] (words text none) ∷ [])

abbrev pub form : Tree
form = element (codes "x") data_ns ((codes "type", codes "submit") ∷ []) (field (codes "FORM_TYPE") (codes "http://jabber.org/protocol/pubsub#node_config") ∷ field (codes "pubsub#notify_retract")
    (codes "1") ∷ [])

abbrev pub ann : ℕ → List Tree → Entry
ann line kids = Change (codes "a.example") line None (asks (codes "ann@a.example/1") line kids)

abbrev pub payload : Tree
payload = tree (codes "entry") (codes "urn:t") [] none

abbrev pub item : List ℕ → List Tree → Tree
item id kids = part (codes "item") ((codes "id", id) ∷ []) kids

abbrev pub entries : List Entry
entries =
    Boot (codes "pubsub.example")
    ∷ ann 1 (part (codes "create") ((codes "node", codes "news") ∷ []) [] ∷ part (codes "configure") [] (form ∷ []) ∷ [])
    ∷ Change (codes "b.example") 1 None (asks (codes "bob@b.example/1") 1 (part (codes "subscribe") ((codes "jid", codes "bob@b.example") ∷ (codes "node", codes "news") ∷ []) [] ∷ []))
    ∷ ann 2 (part (codes "publish") ((codes "node", codes "news") ∷ []) (item (codes "i1") (payload ∷ []) ∷ []) ∷ [])
    ∷ ann 3 (part (codes "publish") ((codes "node", codes "news") ∷ []) (item (codes "i2") (payload ∷ []) ∷ []) ∷ [])
    ∷ ann 4 (part (codes "retract") ((codes "node", codes "news") ∷ []) (item (codes "i1") [] ∷ []) ∷ [])
    ∷ []

-- the lines of bob's notices, and what the mirror took: the first one twice, then again behind the second, and a line that is no stanza
abbrev pub told : List (List ℕ)
told = map (λ (n : Notice). n.line) (notices_to bob entries)

abbrev pub again : List (List ℕ) → List (List ℕ)
again (x ∷ y ∷ z ∷ []) = x ∷ x ∷ codes "" ∷ y ∷ x ∷ z ∷ z ∷ []
again xs = xs

-- the bytes of a source that has these lines
abbrev pub source : List ℕ
source = joined (again told)

abbrev pub second : Copied
second = record { id = codes "i2"; payload = Some payload }

-- all that the laws ask, and what comes of it
pub record CaseHolds : Type 0 where
  pub heard : IsHeard news bob config entries
  pub few : length entries < 2 ^ 127
  pub order : HasInOrder news bob [] (notices_to bob entries) (again told)
  pub source_order : HasInOrder news bob [] (notices_to bob entries) (lines_of source)
  pub holds : held news (replay entries).book ≡ second ∷ []
  pub reported : copied_of news bob config.max_items source ≡ second ∷ []
