use Rattle.std.proofs.Common.{take}
use Rattle.ps_hall_open.specs.Fresh.{AreFreshRows}
use Rattle.ps_hall_open.proofs.readying.rows_of.Given as goal

abbrev pub invariant-hosts : goal.invariant-hosts
invariant-hosts l = AreFreshRows (take l.host-index l.hosts) l.rows.items
