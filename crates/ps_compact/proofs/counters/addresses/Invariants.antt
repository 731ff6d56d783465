use Rattle.std.proofs.Common.{take}
use Rattle.ps_compact.proofs.Counted.{AreWhos}
use Rattle.ps_compact.proofs.counters.addresses.Given as goal

abbrev pub invariant-rows : goal.invariant-rows
invariant-rows l = AreWhos (take l.at l.tallies.rows) l.whos.items
