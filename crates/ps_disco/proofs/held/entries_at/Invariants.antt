use Rattle.std.proofs.Common.{◌≡◌, take}
use Rattle.ps_access.specs.Tables.{book_of}
use Rattle.ps_disco.specs.Entries.{row_children}
use Rattle.ps_nodes.specs.Places.{rows_at}
use Rattle.ps_disco.proofs.held.entries_at.Given as goal

abbrev pub invariant-loop-place : goal.invariant-loop-place
invariant-loop-place l = l.kids ≡ row_children l.jid (rows_at (take l.place-index l.places) (book_of l.tables).nodes)
