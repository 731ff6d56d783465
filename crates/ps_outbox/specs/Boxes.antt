-- The notices that wait, by bare address.
use Rattle.std.specs.Prelude.{ℕ, Bool, ◌≡◌, ◌&&◌, ◌||◌, cond, false, List, [], ◌∷◌, ◌++◌, drop, Option, Some, None, filter, find, nat_lt, bytes_eq, is_some, IsSome}
use Rattle.std.specs.List.{list_any}
use Rattle.ps_base.specs.Rows.{without_first}
use Rattle.ps_types.specs.declared.entry.Notice.{Notice}
use Rattle.ps_types.specs.declared.jid.Jid.{Jid}
use Rattle.ps_types.specs.Same.{same_bare}

-- what contracts see: the notices in the order in which they were pushed, the addresses for which room was made, in two lists, of which the
-- second has those that are held, and how many notices are taken without memory
pub record Boxes : Type 0 where
  pub waiting : List Notice
  pub free : List Jid
  pub held : List Jid
  pub room : ℕ

-- the notice is to an address of that bare address
abbrev pub is_to : Jid → Notice → Bool
is_to who notice = same_bare who notice.to

-- its queue
abbrev pub queue : Jid → List Notice → List Notice
queue who waiting = filter (is_to who) waiting

-- a notice is shown once its entry is durable
abbrev pub shown : ℕ → Option Notice → Option Notice
shown durable None = None
shown durable (Some notice) = cond (nat_lt notice.place durable) (Some notice) None

-- the first of its queue, once it is durable
abbrev pub peeked : Jid → ℕ → List Notice → Option Notice
peeked who durable waiting = shown durable (find (is_to who) waiting)

abbrev pub is_known : Jid → List Jid → Bool
is_known who addresses = list_any (same_bare who) addresses

-- there is room for the address
abbrev pub has_box : List Jid → List Jid → Jid → Bool
has_box free held who = is_known who free || is_known who held

-- how many notices to the address are taken without memory
abbrev pub spare_for : Jid → Boxes → ℕ
spare_for who boxes = cond (has_box boxes.free boxes.held who) boxes.room 0

-- the address is of the host
abbrev pub is_of : List ℕ → Jid → Bool
is_of host who = bytes_eq host who.host

-- a bare address of the host that isn't held, with a notice to show
pub record IsReady (host : List ℕ) (durable : ℕ) (who : Jid) (waiting : List Notice) (held : List Jid) : Type 0 where
  pub bare : who.resource ≡ []
  pub here : who.host ≡ host
  pub first : IsSome (peeked who durable waiting)
  pub apart : is_known who held ≡ false

-- no address of the host that isn't held has a notice to show
pub record NoneReady (host : List ℕ) (durable : ℕ) (waiting : List Notice) (held : List Jid) : Type 0 where
  pub all : (who : Jid) → who.host ≡ host → is_known who held ≡ false → peeked who durable waiting ≡ None

-- the address is of the host, and has a notice to show
abbrev pub is_ready : List ℕ → ℕ → List Notice → Jid → Bool
is_ready host durable waiting who = is_of host who && is_some (peeked who durable waiting)

-- ---- first in, first out

-- what is pushed goes last in its own queue, and into no other
abbrev pub PushGoesLast : Type 0
PushGoesLast = (who : Jid) (waiting : List Notice) (n : Notice) → queue who (waiting ++ n ∷ []) ≡ queue who waiting ++ cond (is_to who n) (n ∷ []) []

-- what is dropped is the first of its own queue
abbrev pub DropTakesFirst : Type 0
DropTakesFirst = (who : Jid) (waiting : List Notice) → queue who (without_first (is_to who) waiting) ≡ drop 1 (queue who waiting)

-- and is in no other queue
abbrev pub OthersStay : Type 0
OthersStay = (who other : Jid) (waiting : List Notice) → same_bare who other ≡ false → queue other (without_first (is_to who) waiting) ≡ queue other waiting
