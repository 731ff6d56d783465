use Rattle.std.proofs.Common.{◌≡◌, sym, subst}
use Rattle.std.specs.Prelude.{IfOk}
use Rattle.ps_journal.specs.Places.{entries_in}
use Rattle.ps_model.specs.Book.{State}
use Rattle.ps_audit_run.specs.Audited.{Audited, held_on}
use Rattle.ps_audit_run.specs.Report.{readers_in, readers_report}
use Rattle.ps_audit_run.proofs.Audits.{audit-refused, audit-told}
use Rattle.ps_audit_run.proofs.running.run_readers.Goals as goal

pub returns-in-Err : goal.returns-in-Err
returns-in-Err g c =
    let D = g.D.Disk in
    let old = c.args.disk in
    let R = readers_report c.args.node.now in
    let refusal = c.in-Err.refusal in
    let e = c.in-Err.ensures in
    subst (λ d. Audited D.tells R (held_on D old) (held_on D d) (D.left_since d) c.refused.result.report) (sym c.refused.ensures.disk)
    (subst (λ r. Audited D.tells R (held_on D old) (held_on D refusal.disk) (D.left_since refusal.disk) r) (sym c.refused.ensures.report)
    (audit-refused D R old refusal.disk e.later e.any_moment refusal.why e.refused e.untouched))

pub read_by-lines-requires : goal.read_by-lines-requires
read_by-lines-requires g c = record { replayed = (entries_in c.in-Ok.observed.entries.items, c.in-Ok.ensures.lawful, c.in-Ok.ensures.state) }

pub returns-in-Ok : goal.returns-in-Ok
returns-in-Ok g c =
    let D = g.D.Disk in
    let old = c.args.disk in
    let R = readers_report c.args.node.now in
    let store = c.in-Ok.observed in
    let e = c.in-Ok.ensures in
    let lines = c.read_by-lines.result in
    subst (λ d. Audited D.tells R (held_on D old) (held_on D d) (D.left_since d) c.told.result.report) (sym c.told.ensures.disk)
    (subst (λ r. Audited D.tells R (held_on D old) (held_on D store.disk) (D.left_since store.disk) r) (sym c.told.ensures.report)
    (audit-told D R old store.disk e.later e.any_moment (entries_in store.entries.items) e.store e.stands e.durable e.upgraded lines
    (subst (λ (s : State). IfOk lines (λ ls. ls ≡ readers_in s.book c.args.node.now)) e.state c.read_by-lines.ensures)))
