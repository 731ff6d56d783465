use Rattle.std.proofs.Common.{◌≡◌, ap, subst, ◌∙◌}
use Rattle.std.specs.Prelude.{Result, Ok, IfOk}
use Rattle.ps_follow.specs.Following.{TakesAs}
use Rattle.ps_follow.specs.Next.{sent}
use Rattle.ps_follow.specs.declared.taking.Took.{Took}
use Rattle.ps_follow.proofs.Walks.{stopped-bad, stopped-gap, stopped-other}
use Rattle.ps_follow.proofs.feeding.take_read.Goals as goal

told : {X : Type 0} → (P : Took → Type 0) (r : Result Took X) (t : Took) → r ≡ Ok t → IfOk r P → P t
told P r t e h = subst (λ x. IfOk x P) e h

pub returns-in-Ok-Bad-clause-stopped : goal.returns-in-Ok-Bad-clause-stopped
returns-in-Ok-Bad-clause-stopped g c = λ E is.
    let state = c.take_record.new.service.state in
    let log = c.take_record.new.log.items in
    let s = sent c.args.place c.args.entry.now in
    stopped-bad E c.args.bytes.now state log s c.args.size c.requires.record
    (told (TakesAs E s state log) c.take_record.result _ (c.in-Ok-Bad.is ∙ ap Ok c.in-Ok-Bad.field-0-is) (c.take_record.ensures.took E is))

pub returns-in-Ok-Gap-clause-stopped : goal.returns-in-Ok-Gap-clause-stopped
returns-in-Ok-Gap-clause-stopped g c = λ E is.
    let state = c.take_record.new.service.state in
    let log = c.take_record.new.log.items in
    let s = sent c.args.place c.args.entry.now in
    stopped-gap E c.args.bytes.now state log s c.args.size c.requires.record
    (told (TakesAs E s state log) c.take_record.result _ (c.in-Ok-Gap.is ∙ ap Ok c.in-Ok-Gap.field-0-is) (c.take_record.ensures.took E is))

pub returns-in-Ok-Differs-clause-stopped : goal.returns-in-Ok-Differs-clause-stopped
returns-in-Ok-Differs-clause-stopped g c = λ E is.
    let state = c.take_record.new.service.state in
    let log = c.take_record.new.log.items in
    let s = sent c.args.place c.args.entry.now in
    stopped-other E c.args.bytes.now state log s c.args.size c.requires.record
    (told (TakesAs E s state log) c.take_record.result _ (c.in-Ok-Differs.is ∙ ap Ok c.in-Ok-Differs.field-0-is) (c.take_record.ensures.took E is))
