use Rattle.std.proofs.Common.{◌≡◌, ◌++◌, take}
use Rattle.ps_audit.specs.Listed.{sub_whos}
use Rattle.ps_audit.proofs.knowing.add_subscribers.Given as goal

abbrev pub invariant-rows : goal.invariant-rows
invariant-rows l = l.whos.items ≡ l.initial.whos.items ++ sub_whos (take l.row-index l.rows)
