use Rattle.std.proofs.Common.{◌∷◌, ◌++◌, [], ◌∙◌, ap}
use Rattle.ps_hall_state_tests.proofs.opened.fresh_rows.Goals as goal

pub returns : goal.returns
returns c = (c.in_ok-row.row, c.in_ok-push.ensures.items ∙ ap (λ xs. xs ++ c.in_ok-row.row ∷ []) c.new-rows.ensures.items, c.in_ok-row.ensures)
