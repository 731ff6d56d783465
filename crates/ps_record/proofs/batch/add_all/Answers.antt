use Rattle.std.proofs.Common.{List, ap, ◌∙◌, get_or, arith}
use Rattle.ps_types.specs.declared.entry.Entry.{Entry}
use Rattle.ps_record.proofs.Spelled.{too_long}
use Rattle.ps_record.proofs.batch.add_all.Goals as goal

pub returns-in-Err-clause-long : goal.returns-in-Err-clause-long
returns-in-Err-clause-long c is =
    let all = c.args.entries.now.items in
    let entry = c.entry-item.result in
    let here = c.entry-item.is ∙ ap (λ (l : List Entry). get_or l c.entries.entry-index entry) c.deref-entry-items.ensures.value in
    too_long all c.entries.entry-index entry c.entries.batch (omega (arith, c.deref-entry-items.ensures.len)) here c.entries.invariant (c.in-Err.ensures.long (cc is))
