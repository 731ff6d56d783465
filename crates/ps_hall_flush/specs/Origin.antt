-- What stood when the hall was opened.
use Rattle.std.specs.Prelude.{ℕ, List, []}
use Rattle.ps_types.specs.declared.entry.Entry.{Entry}
use Rattle.ps_hall_state.specs.declared.answers.Limits.{Limits}
use Rattle.ps_hall_store.specs.Stand.{OpenedAt}

-- the hosts that are served, the list that the store had, the service of the Boot that followed it, how long the store may become, and what was seen of the disk
-- before the opening and behind it
pub record Origin : Type 0 where
  pub hosts : List (List ℕ)
  pub list : List Entry
  pub boot : List ℕ
  pub limits : Limits
  pub at : OpenedAt

abbrev pub nowhere : Origin
nowhere = record { hosts = []; list = []; boot = []; limits = record { changes = 0; whole = 0 }; at = record { moment = 0; faults = 0; bytes = 0; start = 0; seen = []; synced = []; written = [] } }
