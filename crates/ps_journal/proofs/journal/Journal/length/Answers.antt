use Rattle.ps_journal.proofs.Known.{settled_at}
use Rattle.ps_journal.proofs.journal.Journal.length.Goals as goal

pub returns-clause-bytes : goal.returns-clause-bytes
returns-clause-bytes g c tells none bs begun =
    let D = g.D.Disk in
    let d = c.args.self.now.disk in
    (settled_at (D.seen d) (D.synced d) (D.written d) c.args.self.now.length (c.args.self.now.settled none tells) bs begun).ends
