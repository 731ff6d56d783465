use Rattle.std.proofs.Common.{◌≡◌, ◌++◌, take}
use Rattle.ps_audit.specs.Listed.{affil_whos}
use Rattle.ps_audit.proofs.knowing.add_affiliated.Given as goal

abbrev pub invariant-rows : goal.invariant-rows
invariant-rows l = l.whos.items ≡ l.initial.whos.items ++ affil_whos (take l.row-index l.rows)
