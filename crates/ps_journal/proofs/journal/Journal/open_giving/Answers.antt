use Rattle.std.proofs.Common.{[]}
use Rattle.ps_journal.specs.Places.{entries_in}
use Rattle.ps_journal.proofs.Known.{settled_at, at_rest}
use Rattle.ps_journal.proofs.Floors.{floor_at_rest}
use Rattle.ps_journal.proofs.journal.Journal.open_giving.Goals as goal

pub returns-in-Opened-clause-stands : goal.returns-in-Opened-clause-stands
returns-in-Opened-clause-stands g c tells bs begun =
    let D = g.D.Disk in
    let d = c.open_store.new.disk in
    (settled_at (D.seen d) (D.synced d) (D.written d) c.in-Opened.length (c.in-Opened.ensures.settled tells) bs begun).ends

pub returns-in-Opened-clause-durable : goal.returns-in-Opened-clause-durable
returns-in-Opened-clause-durable g c tells f left =
    let D = g.D.Disk in
    let d = c.open_store.new.disk in
    at_rest (D.seen d) (D.synced d) (D.written d) c.in-Opened.length (c.in-Opened.ensures.settled tells) (entries_in c.in-Opened.trail.items) [] (c.in-Opened.ensures.spells tells) tt f left

pub invariant_of-result-clause-floor : goal.invariant_of-result-clause-floor
invariant_of-result-clause-floor g c tells =
    let D = g.D.Disk in
    let d = c.open_store.new.disk in
    floor_at_rest (D.seen d) (D.synced d) (D.written d) c.in-Opened.length (c.in-Opened.ensures.settled tells)
