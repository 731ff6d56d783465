use Rattle.std.proofs.Common.{vec_len}
use Rattle.ps_notices.proofs.Placed.{Placing}
use Rattle.ps_notices.proofs.arranged.by_text.Given as goal

abbrev pub invariant-loop-told : goal.invariant-loop-told
invariant-loop-told l = Placing l.fn.all.items l.all.items l.map.entries

abbrev pub decreases-loop-told : goal.decreases-loop-told
decreases-loop-told l = vec_len l.all
