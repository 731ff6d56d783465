use Rattle.std.proofs.Common.{take}
use Rattle.ps_rows.specs.Standing.{standing}
use Rattle.ps_compact.specs.Few.{AreMade}
use Rattle.ps_compact.proofs.counters.are_made_few.Given as goal

abbrev pub invariant-rows : goal.invariant-rows
invariant-rows l = AreMade (standing (take l.slot-index l.slot-items))
