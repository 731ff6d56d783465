-- Lines as bytes, on the stream of a.example: the first request and its answer, and lines that are refused.
use Rattle.std.specs.Prelude.{◌≡◌, ℕ, zero, suc, ◌+◌, false, List, [], ◌∷◌, ◌++◌, Option, Some, None, option_map, codes}
use Rattle.ps_types.specs.Print.{print}
use Rattle.ps_types.specs.Tree.{Tree}
use Rattle.ps_types.specs.declared.entry.Arrival.{Arrival}
use Rattle.ps_types.specs.declared.entry.Arrival.TheVariants.{Line as Bytes, TooLong}
use Rattle.ps_types.specs.declared.entry.Entry.{Entry}
use Rattle.ps_types.specs.declared.entry.Entry.TheVariants.{Change}
use Rattle.ps_model.specs.Replay.{replay}
use Rattle.ps_model.specs.Replies.{entry_of, reply_to}
use Rattle.ps_model_cases.specs.Case.{boot}
use Rattle.ps_model_cases.specs.Words.{create, iq, news, service}

abbrev pub host : List ℕ
host = codes "a.example"

abbrev pub line : List ℕ → Arrival
line text = Bytes text None

abbrev pub printed_reply : List Entry → ℕ → Arrival → Option (List ℕ)
printed_reply E number arrival = option_map print (reply_to host (replay E).book number arrival false)

abbrev pub entry_made : List Entry → ℕ → Arrival → Option Entry
entry_made E number arrival = entry_of host (replay E).book number arrival false

-- ---- a request, its answer and its entry; and the same again

abbrev pub first_bytes : List ℕ
first_bytes = codes "{\"a\":{\"from\":\"ann@a.example/1\",\"id\":\"1\",\"to\":\"pubsub.example\",\"type\":\"set\"},\"c\":[{\"c\":[{\"a\":{\"node\":\"news\"},\"n\":\"create\"}],\"n\":\"pubsub\",\"ns\":\"http://jabber.org/protocol/pubsub\"}],\"n\":\"iq\"}"

abbrev pub first_answer : List ℕ
first_answer = codes "{\"a\":{\"from\":\"pubsub.example\",\"id\":\"1\",\"to\":\"ann@a.example/1\",\"type\":\"result\"},\"n\":\"iq\"}"

abbrev pub first_tree : Tree
first_tree = iq (codes "ann@a.example/1") (codes "1") service (codes "set") (create news ∷ [])

abbrev pub first_entry : Entry
first_entry = Change host 1 None first_tree

abbrev pub again_bytes : List ℕ
again_bytes = codes "{\"a\":{\"from\":\"ann@a.example/1\",\"id\":\"2\",\"to\":\"pubsub.example\",\"type\":\"set\"},\"c\":[{\"c\":[{\"a\":{\"node\":\"news\"},\"n\":\"create\"}],\"n\":\"pubsub\",\"ns\":\"http://jabber.org/protocol/pubsub\"}],\"n\":\"iq\"}"

abbrev pub again_answer : List ℕ
again_answer = codes "{\"a\":{\"from\":\"pubsub.example\",\"id\":\"2\",\"to\":\"ann@a.example/1\",\"type\":\"error\"},\"c\":[{\"a\":{\"type\":\"cancel\"},\"c\":[{\"n\":\"conflict\",\"ns\":\"urn:ietf:params:xml:ns:xmpp-stanzas\"}],\"n\":\"error\"}],\"n\":\"iq\"}"

pub record FirstLines : Type 0 where
  pub reply : printed_reply (boot ∷ []) 1 (line first_bytes) ≡ Some first_answer
  pub entry : entry_made (boot ∷ []) 1 (line first_bytes) ≡ Some first_entry
  pub second_reply : printed_reply (boot ∷ first_entry ∷ []) 2 (line again_bytes) ≡ Some again_answer
  pub no_entry : entry_made (boot ∷ first_entry ∷ []) 2 (line again_bytes) ≡ None

-- ---- refusals

-- the replies to these lines, the first of which has that number
abbrev pub refusals : ℕ → List Arrival → List (Option (List ℕ))
refusals number [] = []
refusals number (arrival ∷ rest) = printed_reply (boot ∷ []) number arrival ∷ refusals (number + 1) rest

abbrev pub refused : List ℕ → List ℕ → Option (List ℕ)
refused number why = Some (codes "{\"a\":{\"line\":\"" ++ number ++ codes "\",\"why\":\"" ++ why ++ codes "\"},\"n\":\"refused\",\"ns\":\"urn:pubsubd:line\"}")

abbrev pub error_of : List ℕ → List ℕ → Option (List ℕ)
error_of id condition = Some (codes "{\"a\":{\"from\":\"pubsub.example\",\"id\":\"" ++ id ++ codes "\",\"to\":\"ann@a.example/1\",\"type\":\"error\"},\"c\":[{\"a\":{\"type\":\"cancel\"},\"c\":[{\"n\":\"" ++ condition ++ codes "\",\"ns\":\"urn:ietf:params:xml:ns:xmpp-stanzas\"}],\"n\":\"error\"}],\"n\":\"iq\"}")

-- so many trees round another
abbrev pub nested : ℕ → List ℕ → List ℕ
nested zero text = text
nested (suc n) text = nested n (codes "{\"c\":[" ++ text ++ codes "],\"n\":\"iq\"}")

abbrev pub bad_lines : List Arrival
bad_lines =
    TooLong
    ∷ line (codes "{")
    ∷ line (255 ∷ [])
    ∷ line (codes "[]")
    ∷ line (codes "{\"n\":\"\"}")
    ∷ line (codes "{\"n\":\"iq\",\"x\":1}")
    ∷ line (codes "{\"a\":{\"id\":1},\"n\":\"iq\"}")
    ∷ line (codes " ")
    ∷ line (nested 99 (codes "{\"n\":\"iq\"}"))
    ∷ line (nested 32 (codes "{\"n\":\"iq\"}"))
    ∷ line (codes "{\"n\":\"iq\"}")
    ∷ line (codes "{\"a\":{\"from\":\"bob@b.example/1\",\"id\":\"1\",\"type\":\"get\"},\"n\":\"iq\"}")
    ∷ line (codes "{\"a\":{\"from\":\"ann@a.example/1\",\"id\":\"1\",\"type\":\"get\"},\"n\":\"iq\"}")
    ∷ line (codes "{\"a\":{\"from\":\"ann@a.example/1\",\"id\":\"3\",\"to\":\"pubsub.example\",\"type\":\"set\"},\"c\":[{\"n\":\"x\",\"ns\":\"urn:q\"}],\"n\":\"iq\"}")
    ∷ line (codes "{\"a\":{\"from\":\"ann@a.example/1\",\"id\":\"4\",\"to\":\"pubsub.example\",\"type\":\"set\"},\"c\":[{\"c\":[{\"n\":\"foo\"}],\"n\":\"pubsub\",\"ns\":\"http://jabber.org/protocol/pubsub\"}],\"n\":\"iq\"}")
    ∷ []

abbrev pub answers_to_bad : List (Option (List ℕ))
answers_to_bad =
    refused (codes "1") (codes "too-long")
    ∷ refused (codes "2") (codes "not-json")
    ∷ refused (codes "3") (codes "not-json")
    ∷ refused (codes "4") (codes "not-a-tree")
    ∷ refused (codes "5") (codes "not-a-tree")
    ∷ refused (codes "6") (codes "not-a-tree")
    ∷ refused (codes "7") (codes "not-a-tree")
    ∷ None
    ∷ refused (codes "9") (codes "not-json")
    ∷ refused (codes "10") (codes "too-deep")
    ∷ refused (codes "11") (codes "bad-address")
    ∷ refused (codes "12") (codes "foreign-from")
    ∷ refused (codes "13") (codes "bad-stanza")
    ∷ error_of (codes "3") (codes "service-unavailable")
    ∷ error_of (codes "4") (codes "feature-not-implemented")
    ∷ []

abbrev pub Refusals : Type 0
Refusals = refusals 1 bad_lines ≡ answers_to_bad
