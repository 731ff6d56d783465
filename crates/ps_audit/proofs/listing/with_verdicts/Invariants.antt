use Rattle.std.proofs.Common.{◌≡◌, ◌++◌, map}
use Rattle.ps_access.specs.Tables.{book_of}
use Rattle.ps_model.specs.Access.{read}
use Rattle.ps_audit.proofs.listing.with_verdicts.Given as goal

abbrev pub invariant-loop-who : goal.invariant-loop-who
invariant-loop-who l = l.lines.items ++ map (λ who. (who, read (book_of l.tables) l.node who)) l.who-iterator.rest.items ≡ map (λ who. (who, read (book_of l.tables) l.node who)) l.fn.whos.items
