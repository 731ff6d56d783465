use Rattle.std.proofs.Common.{◌≡◌, ◌<◌, ◌+◌, ◌++◌, ◌∷◌, [], length, take, arith, ap, sym, ◌∙◌}
use Rattle.std.proofs.lemmas.List.{take_more}
use Rattle.ps_types.specs.declared.request.AskRow.{AskRow}
use Rattle.ps_access.proofs.OneMore.{affil-next}
use Rattle.ps_access.proofs.setting.set_asked_affils.Goals as goal

pub loop-row-preserved : goal.loop-row-preserved
loop-row-preserved c =
    let rows = c.args.rows.now in
    let i = c.loop-row.row-index in
    let less : i < length rows = omega arith in
    let more : take (i + 1) rows ≡ take i rows ++ c.row-item.result ∷ [] = take_more rows i c.row-item.result less ∙ ap (λ (x : AskRow). take i rows ++ x ∷ []) (sym c.row-item.is) in
    affil-next c.args.node.now c.row-item.result rows i c.in_ok-row.row c.args.affils.now.rows c.loop-row.affils.rows c.reserve.new.self.rows c.set.new.self.rows c.in_ok-row.ensures.row
    c.reserve.ensures.rows c.set.ensures.rows c.loop-row.invariant more
