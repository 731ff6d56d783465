use Rattle.std.proofs.Common.{◌≡◌, ◌<◌, ◌+◌, ◌++◌, ◌∷◌, [], length, take, arith, ap, sym, ◌∙◌}
use Rattle.std.proofs.lemmas.List.{take_more}
use Rattle.ps_types.specs.declared.request.AskRow.{AskRow}
use Rattle.ps_access.proofs.OneMore.{sub-next}
use Rattle.ps_access.proofs.setting.set_asked_subs.Goals as goal

pub loop-row-preserved : goal.loop-row-preserved
loop-row-preserved c =
    let rows = c.args.rows.now in
    let i = c.loop-row.row-index in
    let less : i < length rows = omega arith in
    let more : take (i + 1) rows ≡ take i rows ++ c.row-item.result ∷ [] = take_more rows i c.row-item.result less ∙ ap (λ (x : AskRow). take i rows ++ x ∷ []) (sym c.row-item.is) in
    sub-next c.args.node.now c.row-item.result rows i c.asked_state.result c.args.subs.now.rows c.loop-row.subs.rows c.set_state.new.subs.rows c.asked_state.ensures.state
    c.in_ok-set_state.ensures.subs c.loop-row.invariant more
