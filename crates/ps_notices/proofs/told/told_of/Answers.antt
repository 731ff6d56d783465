use Rattle.std.proofs.Common.{◌≡◌, sym, subst, ◌∙◌}
use Rattle.std.specs.Prelude.{IfOk}
use Rattle.ps_model.specs.Book.{Book}
use Rattle.ps_access.specs.Tables.{book_of}
use Rattle.ps_fanout.specs.Told.{told}
use Rattle.ps_notices.proofs.Due.{of_delete, of_other}
use Rattle.ps_notices.proofs.told.told_of.Goals as goal

pub returns-then-is_delete : goal.returns-then-is_delete
returns-then-is_delete g c =
    subst (λ (b : Book). IfOk c.drafts.result (λ v. v.items ≡ told b c.args.event.now))
    (of_delete c.args.event.now (book_of c.args.before.now) (book_of c.args.after.now) (sym c.is_delete.ensures ∙ c.if-is_delete.true)) c.drafts.ensures.told

pub returns-else-is_delete : goal.returns-else-is_delete
returns-else-is_delete g c =
    subst (λ (b : Book). IfOk c.drafts-else-is_delete.result (λ v. v.items ≡ told b c.args.event.now))
    (of_other c.args.event.now (book_of c.args.before.now) (book_of c.args.after.now) (sym c.is_delete.ensures ∙ c.if-is_delete.false)) c.drafts-else-is_delete.ensures.told
