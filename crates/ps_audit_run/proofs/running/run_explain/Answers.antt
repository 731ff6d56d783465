use Rattle.std.proofs.Common.{inl, sym, subst, arith}
use Rattle.ps_disk.proofs.Moments.{started}
use Rattle.ps_journal.specs.Opened.{LeftOrHas}
use Rattle.ps_hall_open.specs.declared.opened.ReadWhy.TheVariants.{Memory}
use Rattle.ps_audit_run.specs.Audited.{Audited, held_on}
use Rattle.ps_audit_run.specs.Report.{explain_report}
use Rattle.ps_audit_run.proofs.Audits.{audit-refused}
use Rattle.ps_audit_run.proofs.running.run_explain.Goals as goal

-- nothing was touched
pub returns-in-Err : goal.returns-in-Err
returns-in-Err g c =
    let D = g.D.Disk in
    let old = c.args.disk in
    let R = explain_report c.args.who.now c.args.node.now in
    subst (λ d. Audited D.tells R (held_on D old) (held_on D d) (D.left_since d) c.told.result.report) (sym c.told.ensures.disk)
    (subst (λ r. Audited D.tells R (held_on D old) (held_on D old) (D.left_since old) r) (sym c.told.ensures.report)
    (audit-refused D R old old (omega arith) (λ tells E spells few. started D.moment D.left_since old (LeftOrHas (D.synced old) (D.written old) E) (λ f left. inl (g.met.D.Disk.only_now old f left)))
    Memory tt (λ tells. tt)))

pub returns-in-Ok : goal.returns-in-Ok
returns-in-Ok g c =
    let D = g.D.Disk in
    let old = c.args.disk in
    let new = c.explain_by.result in
    let about = c.in-Ok.ensures.about in
    subst (λ who. Audited D.tells (explain_report who c.args.node.now) (held_on D old) (held_on D new.disk) (D.left_since new.disk) new.report) about.0
    (subst (λ node. Audited D.tells (explain_report c.in-Ok.explaining.who.now node) (held_on D old) (held_on D new.disk) (D.left_since new.disk) new.report) about.1 c.explain_by.ensures)
