use Rattle.std.proofs.Common.{arith}
use Rattle.ps_hall_open.proofs.Readies.{rows_more}
use Rattle.ps_hall_open.proofs.readying.rows_of.Goals as goal

pub hosts-preserved : goal.hosts-preserved
hosts-preserved c =
    rw c.in_ok-push.ensures.items (rows_more c.args.hosts.now c.hosts.rows.items c.hosts.host-index c.host-item.result c.in_ok-row.row (omega arith) c.host-item.is c.hosts.invariant
    c.in_ok-row.ensures.host c.in_ok-row.ensures.fresh)
