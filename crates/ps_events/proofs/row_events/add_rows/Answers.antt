use Rattle.std.proofs.Common.{◌≡◌, ◌<◌, ◌+◌, ◌++◌, ◌∷◌, [], length, take, arith, ap, sym, ◌∙◌}
use Rattle.std.proofs.lemmas.List.{take_more}
use Rattle.ps_types.specs.declared.request.AskRow.{AskRow}
use Rattle.ps_access.proofs.OneMore.{sub-next}
use Rattle.ps_access.specs.Tables.{book_of}
use Rattle.ps_events.proofs.States.{told-next}
use Rattle.ps_events.proofs.row_events.add_rows.Goals as goal

pub loop-row-preserved : goal.loop-row-preserved
loop-row-preserved c =
    let node = c.args.node.now in
    let rows = c.args.rows.now in
    let i = c.loop-row.row-index in
    let x = c.row-item.result in
    let start = c.args.subs.now.rows in
    let subs = c.loop-row.subs.rows in
    let less : i < length rows = omega arith in
    let more : take (i + 1) rows ≡ take i rows ++ x ∷ [] = take_more rows i x less ∙ ap (λ (y : AskRow). take i rows ++ y ∷ []) (sym c.row-item.is) in
    record {
      subs = sub-next node x rows i c.asked_state-new.result start subs c.set_state.new.subs.rows c.asked_state-new.ensures.state c.in_ok-set_state.ensures.subs c.loop-row.invariant.subs more;
      told = told-next node rows i x start subs (book_of c.args.after.now) c.get-old.result c.asked_state-new.result c.args.told.now.items c.loop-row.told.items c.add_told.new.told.items
          more c.get-old.ensures.state c.asked_state-new.ensures.state c.in_ok-add_told.ensures c.loop-row.invariant.subs c.loop-row.invariant.told;
    }
