use Rattle.std.proofs.Common.{take}
use Rattle.ps_access.specs.Tables.{book_of}
use Rattle.ps_disco.specs.Held.{AreFound}
use Rattle.ps_disco.proofs.held.places_among.Given as goal

abbrev pub invariant-loop-child : goal.invariant-loop-child
invariant-loop-child l = AreFound (book_of l.tables) l.collection (take l.child-index l.children) l.places.keys
