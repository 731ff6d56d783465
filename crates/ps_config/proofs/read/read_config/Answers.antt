use Rattle.std.proofs.Common.{sym, ◌∙◌, arith, rules}
use Rattle.std.proofs.lemmas.List.{drop_all}
use Rattle.ps_config.proofs.Rows.{bad-row, end-rows, all-read}
use Rattle.ps_config.proofs.read.read_config.Goals as goal

pub returns-in-Err-Bad-clause-cause : goal.returns-in-Err-Bad-clause-cause
returns-in-Err-Bad-clause-cause c =
    sym (all-read c.rows-row-items.result.now c.args.form.now c.args.base.now c.rows-row-items.ensures) ∙ sym c.loop-i.invariant
    ∙ bad-row c.loop-i.i c.rows-row-items.result.now _ c.args.form.now c.loop-i.config (omega arith) (c.in-Err-Bad.ensures.bad (search rules))

pub returns-clause-ok : goal.returns-clause-ok
returns-clause-ok c =
    sym (all-read c.rows-row-items.result.now c.args.form.now c.args.base.now c.rows-row-items.ensures) ∙ sym c.loop-i.invariant
    ∙ end-rows c.loop-i.i c.rows-row-items.result.now c.args.form.now c.loop-i.config (drop_all c.loop-i.i c.rows-row-items.result.now (omega arith))
