use Rattle.std.proofs.Common.{◌≡◌, take}
use Rattle.ps_access.specs.Tables.{book_of}
use Rattle.ps_notices.specs.Due.{told_each}
use Rattle.ps_notices.proofs.told.all_told.Given as goal

abbrev pub invariant-loop-event : goal.invariant-loop-event
invariant-loop-event g l = l.all.items ≡ told_each (book_of l.before) (book_of l.after) (take l.event-index l.events)
