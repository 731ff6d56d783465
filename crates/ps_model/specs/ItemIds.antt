-- The id of an item that is published without one.
use Rattle.std.specs.Prelude.{ℕ, ◌+◌, List, [], ◌∷◌, ◌++◌, codes}
use Rattle.std.specs.Fmt.{decimal}
use Rattle.ps_types.specs.declared.jid.Jid.{Jid}
use Rattle.ps_types.specs.declared.node.NodeKey.{NodeKey}
use Rattle.ps_types.specs.Address.{bare, jid_text}
use Rattle.ps_types.specs.Counts.{made_at}
use Rattle.ps_model.specs.Book.{Book}

-- one more than this bare address has made on this node
abbrev pub next_made : Book → NodeKey → Jid → ℕ
next_made book node who = made_at node who book.counts + 1

abbrev pub auto_id : ℕ → Jid → List ℕ
auto_id made who = codes "auto-" ++ decimal made ++ codes "-" ++ jid_text (bare who)

-- the id as it was spelled, or a new one
abbrev pub item_id : List ℕ → Book → NodeKey → Jid → List ℕ
item_id [] book node who = auto_id (next_made book node who) who
item_id (x ∷ id) book node who = x ∷ id
