use Rattle.std.proofs.Common.{◌≡◌, ◌+◌, ◌<◌, ◌≤◌, ◌||◌, List, length, take, arith, ap, sym, subst, ◌∙◌}
use Rattle.std.proofs.lemmas.List.{take_all}
use Rattle.std.proofs.lemmas.List.Folds.{list_any_more}
use Rattle.ps_types.specs.declared.request.AskRow.{AskRow}
use Rattle.ps_types.specs.declared.jid.Jid.{Jid}
use Rattle.ps_types.specs.Same.{same_jid}
use Rattle.ps_events.specs.Parts.{AreThose, is_asked}
use Rattle.ps_events.proofs.States.{those-more}
use Rattle.ps_events.proofs.row_events.those_of.Goals as goal

pub loop-row-preserved : goal.loop-row-preserved
loop-row-preserved c =
    let rows = c.args.rows.now in
    let i = c.loop-row.row-index in
    let x = c.row-item.result in
    let less : i < length rows = omega arith in
    let more : (who : Jid) → is_asked who (take (i + 1) rows) ≡ (is_asked who (take i rows) || same_jid x.jid who) =
    λ who. list_any_more (λ (row : AskRow). same_jid row.jid who) rows i x less ∙ ap (λ (y : AskRow). is_asked who (take i rows) || same_jid y.jid who) (sym c.row-item.is)
    in
    those-more c.args.node.now rows i x c.args.subs.now.rows c.loop-row.few.rows c.set_state.new.subs.rows c.get-state.result more c.get-state.ensures.state c.in_ok-set_state.ensures.subs
    c.loop-row.invariant

pub returns : goal.returns
returns c =
    let rows = c.args.rows.now in
    let i = c.loop-row.row-index in
    let end : length rows ≤ i = omega arith in
    subst (λ (l : List AskRow). AreThose c.args.node.now l c.args.subs.now.rows c.loop-row.few.rows) (take_all i rows end) c.loop-row.invariant
