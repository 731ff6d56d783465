use Rattle.ps_compact_import.proofs.Said.{told-said}
use Rattle.ps_compact_import.proofs.rows.put_row.Goals as goal

pub returns-in-Notice-clause-tallies : goal.returns-in-Notice-clause-tallies
returns-in-Notice-clause-tallies c =
    told-said c.args.tallies.now.rows c.args.row c.in-Notice.to _ c.put_notice.result c.put_notice.new.tallies.rows c.in-Notice.is c.put_notice.ensures.tallies
