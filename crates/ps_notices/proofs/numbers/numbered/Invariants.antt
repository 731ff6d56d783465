use Rattle.ps_notices.proofs.Counting.{Numbering}
use Rattle.ps_notices.proofs.numbers.numbered.Given as goal

abbrev pub invariant-loop-told : goal.invariant-loop-told
invariant-loop-told l = Numbering l.place l.tallies.rows l.here.rows l.fn.due.items l.told-iterator.rest.items l.notices.items
