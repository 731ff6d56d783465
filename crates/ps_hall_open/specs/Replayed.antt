-- What comes of a list of entries that was read from a store.
use Rattle.std.specs.Prelude.{◌≡◌, ◌<◌, ◌^◌, Bool, true, false, List, [], ◌++◌, length}
use Rattle.ps_base.specs.Rows.{without_first}
use Rattle.ps_model.specs.Book.{empty_state}
use Rattle.ps_model.specs.After.{after, notices_at}
use Rattle.ps_model.specs.Replay.{accepted, lawful, replay}
use Rattle.ps_types.specs.declared.entry.Entry.{Entry}
use Rattle.ps_types.specs.declared.entry.Entry.TheVariants.{Boot, Change, Handed, Gone, Base}
use Rattle.ps_types.specs.declared.entry.Notice.{Notice}
use Rattle.ps_journal.specs.Places.{entries_in}
use Rattle.ps_journal.specs.declared.judging.Placed.{Placed}
use Rattle.ps_outbox.specs.Boxes.{is_to}
use Rattle.ps_hall_state.specs.Stand.{QueuesStand}
use Rattle.ps_hall_open.specs.declared.opened.Rebuilt.{Rebuilt}

-- before the first entry
pub record IsFresh (r : Rebuilt) : Type 0 where
  pub state : r.service.state ≡ empty_state
  pub queues : r.queues.waiting ≡ []
  pub held : r.queues.held ≡ []

-- the notices without the one that the entry says was handed
abbrev pub unhanded : Entry → List Notice → List Notice
unhanded (Boot service) waiting = waiting
unhanded (Change host line moment t) waiting = waiting
unhanded (Handed to) waiting = without_first (is_to to) waiting
unhanded (Gone host) waiting = waiting
unhanded (Base row) waiting = waiting

-- the entry was taken, and its notices wait, where it is accepted
abbrev pub IsTaken : Rebuilt → Rebuilt → Entry → Bool → Type 0
IsTaken old new e true =
    (accepted old.service.state e ≡ true) × (new.service.state ≡ after old.service.state e)
    × (new.queues.waiting ≡ unhanded e (old.queues.waiting ++ notices_at old.service.state e))
    × (new.queues.held ≡ old.queues.held)
IsTaken old new e false = (accepted old.service.state e ≡ false) × (new.service.state ≡ old.service.state)
    × (new.queues.waiting ≡ old.queues.waiting) × (new.queues.held ≡ old.queues.held)

-- these entries are accepted one after the other, and this is the State that they leave, with the notices that are not handed, of which none is in hand
pub record IsReplayed (entries : List Entry) (r : Rebuilt) : Type 0 where
  pub each : lawful entries
  pub state : r.service.state ≡ replay entries
  pub queues : QueuesStand r.queues.waiting entries
  pub held : r.queues.held ≡ []

-- these were taken, and are not so many that a number of them has no room
pub record HasTaken (placed : List Placed) (r : Rebuilt) : Type 0 where
  pub few : length placed < 2 ^ 61
  pub replayed : IsReplayed (entries_in placed) r

-- after these the entry isn't accepted
abbrev pub is_refused : List Placed → Placed → Type 0
is_refused placed one = accepted (replay (entries_in placed)) one.entry ≡ false
