use Rattle.std.proofs.Common.{take}
use Rattle.ps_access.specs.Tables.{book_of}
use Rattle.ps_nodes.specs.Places.{rows_at}
use Rattle.ps_events.specs.Parts.{Adds}
use Rattle.ps_events.specs.Wanted.{lasts}
use Rattle.ps_events.proofs.wanted.add_lasts_at.Given as goal

abbrev pub invariant-loop-place : goal.invariant-loop-place
invariant-loop-place l = Adds (lasts l.who (book_of l.after) (rows_at (take l.place-index l.places) l.after.nodes.rows)) l.fn.told l.told
