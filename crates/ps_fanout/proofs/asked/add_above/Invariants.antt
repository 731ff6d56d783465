use Rattle.std.proofs.Common.{◌≡◌, ◌++◌, take}
use Rattle.std.specs.Prelude.{flat_map}
use Rattle.ps_access.specs.Tables.{book_of}
use Rattle.ps_fanout.specs.Hearing.{subscribers}
use Rattle.ps_fanout.proofs.asked.add_above.Given as goal

abbrev pub invariant-loop-collection : goal.invariant-loop-collection
invariant-loop-collection l = l.whos.items ≡ l.fn.whos.items ++ flat_map (subscribers (book_of l.tables)) (take l.collection-index l.above)
