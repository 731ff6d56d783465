use Rattle.std.proofs.Common.{◌≡◌, ◌++◌, map, take}
use Rattle.ps_fanout.proofs.asked.add_whos.Given as goal

abbrev pub invariant-loop-row : goal.invariant-loop-row
invariant-loop-row l = l.whos.items ≡ l.fn.whos.items ++ map (λ row. row.who) (take l.row-index l.rows)
