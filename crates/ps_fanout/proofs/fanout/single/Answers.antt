use Rattle.std.proofs.Common.{◌≡◌, List, subst}
use Rattle.std.specs.Prelude.{IfOk}
use Rattle.ps_types.specs.Tree.{Tree}
use Rattle.ps_types.specs.declared.jid.Jid.{Jid}
use Rattle.ps_access.specs.Tables.{book_of}
use Rattle.ps_fanout.proofs.Spread.{approval-told, last-told, question-told, sub-told}
use Rattle.ps_fanout.proofs.fanout.single.Goals as goal

pub returns-in_ok-approval-in-Approval : goal.returns-in_ok-approval-in-Approval
returns-in_ok-approval-in-Approval c =
    subst (λ (xs : List (Jid × Tree)). IfOk c.to_one.result (λ v. v.items ≡ xs))
    (approval-told (book_of c.args.tables.now) c.args.event.now c.in-Approval.node c.in-Approval.owner c.in-Approval.who c.in_ok-approval-in-Approval.field-0 c.in-Approval.is
    c.in_ok-approval-in-Approval.ensures)
    c.to_one.ensures

pub returns-in_ok-subscription_told-in-Told : goal.returns-in_ok-subscription_told-in-Told
returns-in_ok-subscription_told-in-Told c =
    subst (λ (xs : List (Jid × Tree)). IfOk c.to_one-in-Told.result (λ v. v.items ≡ xs))
    (sub-told (book_of c.args.tables.now) c.args.event.now c.in-Told.node c.in-Told.who c.in-Told.state c.in_ok-subscription_told-in-Told.field-0 c.in-Told.is
    c.in_ok-subscription_told-in-Told.ensures)
    c.to_one-in-Told.ensures

pub returns-in_ok-tree-in-Last : goal.returns-in_ok-tree-in-Last
returns-in_ok-tree-in-Last c =
    subst (λ (xs : List (Jid × Tree)). IfOk c.to_one-in-Last.result (λ v. v.items ≡ xs))
    (last-told (book_of c.args.tables.now) c.args.event.now c.in-Last.node c.in-Last.to c.in-Last.by_subscription c.in-Last.moment c.in_ok-tree-in-Last.tree c.in-Last.is c.in_ok-tree-in-Last.ensures)
    c.to_one-in-Last.ensures

pub returns-in_ok-question-in-Question : goal.returns-in_ok-question-in-Question
returns-in_ok-question-in-Question c =
    subst (λ (xs : List (Jid × Tree)). IfOk c.to_one-in-Question.result (λ v. v.items ≡ xs))
    (question-told (book_of c.args.tables.now) c.args.event.now c.in-Question.to c.in-Question.caps c.in_ok-question-in-Question.field-0 c.in-Question.is c.in_ok-question-in-Question.ensures)
    c.to_one-in-Question.ensures
