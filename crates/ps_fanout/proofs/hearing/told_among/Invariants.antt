use Rattle.std.proofs.Common.{◌≡◌, take}
use Rattle.ps_access.specs.Tables.{book_of}
use Rattle.ps_fanout.specs.Hearing.{hears}
use Rattle.ps_fanout.specs.Told.{given_to}
use Rattle.ps_fanout.proofs.hearing.told_among.Given as goal

abbrev pub invariant-loop-who : goal.invariant-loop-who
invariant-loop-who l = l.told.items ≡ given_to (hears (book_of l.tables) l.news) (take l.who-index l.whos)
