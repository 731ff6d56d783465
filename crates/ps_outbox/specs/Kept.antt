-- What the outboxes keep true.
use Rattle.std.specs.Prelude.{ℕ, Bool, true, ◌≡◌, ◌&&◌, false, ◌||◌, ◌≤◌, not, List, [], ◌∷◌, length, nat_le, nat_lt, bytes_eq}
use Rattle.std.specs.List.{list_all}
use Rattle.ps_types.specs.declared.entry.Notice.{Notice}
use Rattle.ps_types.specs.declared.jid.Jid.{Jid}
use Rattle.ps_base.specs.Rows.{Table}
use Rattle.ps_outbox.specs.Boxes.{has_box, is_known}

-- places don't fall along the list, from a lowest one to a last one
abbrev pub rises : ℕ → List Notice → ℕ → Bool
rises low [] last = nat_le low last
rises low (notice ∷ notices) last = nat_le low notice.place && rises notice.place notices last

abbrev pub is_bare : Jid → Bool
is_bare who = bytes_eq who.resource []

abbrev pub is_apart : List Jid → Jid → Bool
is_apart held who = not (is_known who held)

-- each notice that waits has its address in one of the two lists, and no address is in both; the free ones have room for those that are held
pub record QueuesAreKept (waiting : List Notice) (free : Table Jid) (held : List Jid) (last : ℕ) (in_order : Bool) : Type 0 where
  pub known : list_all (λ n. has_box free.rows held n.to) waiting ≡ true
  pub bare : list_all is_bare free.rows ≡ true
  pub apart : list_all (is_apart held) free.rows ≡ true
  pub room : length held ≤ free.spare
  pub order : not in_order || rises 0 waiting last ≡ true

-- the last place, and whether all were pushed in order, with one more
abbrev pub stamped_by : Bool → ℕ → Bool → ℕ → ℕ × Bool
stamped_by true last in_order place = (last, false)
stamped_by false last in_order place = (place, in_order)

abbrev pub stamped : ℕ → Bool → ℕ → ℕ × Bool
stamped last in_order place = stamped_by (nat_lt place last) last in_order place
