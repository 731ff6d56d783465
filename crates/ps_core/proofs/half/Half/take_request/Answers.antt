use Rattle.std.proofs.Common.{arith}
use Rattle.std.specs.Prelude.{◌≤◌, ◌+◌, ◌^◌}
use Rattle.ps_types.specs.Counts.{made_at}
use Rattle.ps_access.specs.Tables.{book_of}
use Rattle.ps_core.proofs.Counted.{below_made}
use Rattle.ps_core.proofs.Known.{made_accepted}
use Rattle.ps_core.proofs.half.Half.take_request.Goals as goal

pub change-requires-clause-accepted : goal.change-requires-clause-accepted
change-requires-clause-accepted c = made_accepted (book_of c.args.self.now.tables) c.args.request.now c.requires.accepted

pub change-requires-clause-few : goal.change-requires-clause-few
change-requires-clause-few c = λ node who.
    let below : made_at node who c.args.self.now.tables.counts.rows ≤ c.args.self.now.count + 2 ^ 62 = below_made (c.args.self.now.count + 2 ^ 62) node who c.args.self.now.tables.counts.rows
    c.requires.counted in
    omega (arith, below, c.requires.few)
