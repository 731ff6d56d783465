-- Where the journal has no room for an entry: who would make one is told so, by a stanza of the same kind, and all else is as ever.
use Rattle.std.specs.Prelude.{List, [], ◌∷◌, None, true, codes}
use Rattle.ps_types.specs.Print.{client}
use Rattle.ps_types.specs.Shape.{element}
use Rattle.ps_types.specs.declared.entry.Notice.{Notice}
use Rattle.ps_model_cases.specs.AccessCases.{q, question, asking, pending}
use Rattle.ps_model_cases.specs.Case.{Exchange, Sent, answered}
use Rattle.ps_model_cases.specs.ConditionCases.{approval_of, denied_message}
use Rattle.ps_model_cases.specs.Denials.{conflict, no_room, not_authorized}
use Rattle.ps_model_cases.specs.HomeCases.{answer, asks_bob, bob_is_present, feature, info, presence, short}
use Rattle.ps_model_cases.specs.Words.{ann, bob, bare_bob, news, without_room, sets, gets, sends, done, shown, denied, denied_as, service, create, publish, get_items, items_of, subscribe, subscribed}

abbrev pub full : Sent → Sent
full sent = record sent { full = true }

abbrev pub requests : List Exchange
requests =
    denied (without_room (sets ann 1 (create news))) no_room
    ∷ done (sets ann 2 (create news)) []
    ∷ denied (without_room (sets ann 3 (create news))) conflict
    ∷ denied (without_room (sets ann 4 (publish news (codes "i")))) no_room
    ∷ shown (without_room (gets bob 1 (get_items news))) (items_of news [])
    ∷ done (sets bob 2 (subscribe bare_bob news)) (subscribed bare_bob news)
    ∷ shown (without_room (sets bob 3 (subscribe bare_bob news))) (subscribed bare_bob news)
    ∷ []

-- an approval and a presence are told so too, and an answer about capabilities isn't
abbrev pub others : List Exchange
others =
    asking
    ∷ done (sets bob 1 (subscribe bare_bob q)) (pending ∷ [])
    ∷ denied_message (full (sends ann 2 (approval_of q bare_bob (codes "1")))) no_room
    ∷ denied (without_room (sets bob 2 (subscribe bare_bob q))) (not_authorized (codes "pending-subscription"))
    ∷ bob_is_present 3
    ∷ answered (full (sends bob 4 (answer bob (codes "n-1") (info short (feature (codes "urn:t+notify") ∷ []))))) None
    ∷ answered (full (sends bob 5 (presence bob short))) None
    ∷ denied_as (codes "presence") (codes "bob@b.example/1") (full (sends bob 6 (element (codes "presence") client ((codes "from", codes "bob@b.example/1") ∷ (codes "to", service) ∷ []) []))) no_room
    ∷ []

abbrev pub others_told : List Notice
others_told = question 2 1 ∷ asks_bob 3 ∷ []
