-- Bookmarks, published with options that make the node, and that it must meet.
use Rattle.std.specs.Prelude.{ℕ, zero, suc, ◌+◌, List, [], ◌∷◌, ◌++◌, codes}
use Rattle.std.specs.Fmt.{decimal}
use Rattle.ps_types.specs.Shape.{element}
use Rattle.ps_types.specs.Tree.{Tree}
use Rattle.ps_model_cases.specs.Case.{Exchange}
use Rattle.ps_model_cases.specs.Denials.{not_met}
use Rattle.ps_model_cases.specs.Words.{Iq, ann, sets, gets, at_home, done, shown, denied, pubsub, part, at_node, field, form, item, published, get_items, items_of}

abbrev pub bookmarks : List ℕ
bookmarks = codes "urn:xmpp:bookmarks:1"

abbrev pub conference : Tree
conference = element (codes "conference") bookmarks ((codes "autojoin", codes "true") ∷ []) []

abbrev pub publish_with : List ℕ → List ℕ → List Tree → Tree
publish_with room access more = pubsub (
    part (codes "publish") (at_node bookmarks) (item room (conference ∷ []) ∷ [])
    ∷ part (codes "publish-options") [] (form (codes "#publish-options")
    (field (codes "persist_items") (codes "true") ∷ field (codes "max_items") (codes "max") ∷ field (codes "send_last_published_item") (codes "never") ∷ field (codes "access_model") access ∷ more) ∷ [])
    ∷ [])

-- ann sends it without `to`, so her account answers
abbrev pub unaddressed : Iq → Iq
unaddressed q = record (at_home q) { to = [] }

abbrev pub keeps : ℕ → List ℕ → Exchange
keeps number room = done (unaddressed (sets ann number (publish_with room (codes "whitelist") []))) (published bookmarks room)

abbrev pub first_room : List ℕ
first_room = codes "room@muc.example"

abbrev pub room : ℕ → List ℕ
room k = codes "room" ++ decimal k ++ codes "@muc.example"

-- so many rooms from the k-th on: each is kept, and each is listed
abbrev pub keeps_rooms : ℕ → ℕ → List Exchange → List Exchange
keeps_rooms k zero rest = rest
keeps_rooms k (suc n) rest = keeps k (room k) ∷ keeps_rooms (k + 1) n rest

abbrev pub rooms : ℕ → ℕ → List Tree
rooms k zero = []
rooms k (suc n) = item (room k) (conference ∷ []) ∷ rooms (k + 1) n

abbrev pub forty_rooms : List Exchange
forty_rooms =
    keeps 1 first_room
    ∷ keeps_rooms 2 39 (
    shown (unaddressed (gets ann 41 (get_items bookmarks))) (items_of bookmarks (item first_room (conference ∷ []) ∷ rooms 2 39))
    ∷ keeps 42 first_room
    ∷ denied (unaddressed (sets ann 43 (publish_with first_room (codes "open") []))) not_met
    ∷ denied (unaddressed (sets ann 44 (publish_with first_room (codes "whitelist") (field (codes "nope") (codes "1") ∷ [])))) not_met
    ∷ [])
