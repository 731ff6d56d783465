use Rattle.std.proofs.Common.{◌∙◌, ap, rules}
use Rattle.ps_rows.proofs.Alike.{all_same}
use Rattle.ps_notice_numbers.proofs.tallies.Tallies.copy.Goals as goal

pub returns : goal.returns
returns c = record { rows = all_same _ (λ x y k. search rules) _ _ c.in_ok-copy.ensures.rows ∙ ap (λ t. t.rows) c.self.view_is }
