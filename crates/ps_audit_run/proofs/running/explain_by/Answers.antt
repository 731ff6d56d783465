use Rattle.std.proofs.Common.{◌≡◌, List, sym, subst, ◌∙◌}
use Rattle.std.specs.Prelude.{IfOk}
use Rattle.ps_audit_laws.specs.declared.told.ExplainLine.{ExplainLine}
use Rattle.ps_journal.specs.Places.{entries_in}
use Rattle.ps_audit_run.specs.Audited.{Audited, held_on}
use Rattle.ps_audit_run.specs.Report.{explain_report, history_report}
use Rattle.ps_audit_run.proofs.Audits.{audit-refused, audit-told}
use Rattle.ps_audit_run.proofs.running.explain_by.Goals as goal

pub returns-in-Err : goal.returns-in-Err
returns-in-Err g c =
    let D = g.D.Disk in
    let old = c.args.disk in
    let R = explain_report c.args.explaining.who.now c.args.explaining.node.now in
    let refusal = c.in-Err.refusal in
    let e = c.in-Err.ensures in
    subst (λ d. Audited D.tells R (held_on D old) (held_on D d) (D.left_since d) c.refused.result.report) (sym c.refused.ensures.disk)
    (subst (λ r. Audited D.tells R (held_on D old) (held_on D refusal.disk) (D.left_since refusal.disk) r) (sym c.refused.ensures.report)
    (audit-refused D R old refusal.disk e.later e.any_moment refusal.why e.refused e.untouched))

pub returns-in-Ok : goal.returns-in-Ok
returns-in-Ok g c =
    let D = g.D.Disk in
    let old = c.args.disk in
    let R = explain_report c.args.explaining.who.now c.args.explaining.node.now in
    let store = c.in-Ok.observed in
    let E = entries_in store.entries.items in
    let e = c.in-Ok.ensures in
    let lines = c.history_lines-lines.result in
    let are = c.deref.ensures.value ∙ c.into_lines-history.ensures c.args.explaining E e.saw in
    subst (λ d. Audited D.tells R (held_on D old) (held_on D d) (D.left_since d) c.told.result.report) (sym c.told.ensures.disk)
    (subst (λ r. Audited D.tells R (held_on D old) (held_on D store.disk) (D.left_since store.disk) r) (sym c.told.ensures.report)
    (audit-told D R old store.disk e.later e.any_moment E e.store e.stands e.durable e.upgraded lines
    (subst (λ (hs : List ExplainLine). IfOk lines (λ ls. ls ≡ history_report hs)) are c.history_lines-lines.ensures)))
