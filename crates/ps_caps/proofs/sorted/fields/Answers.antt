use Rattle.std.proofs.Common.{◌≡◌, ◌∙◌, ap, rules}
use Rattle.ps_types.specs.CapString.{field_le}
use Rattle.ps_types.specs.declared.form.Field.{Field}
use Rattle.ps_types.specs.Ordered.{sort_by}
use Rattle.ps_caps.proofs.Orders.{sorted_by_text}
use Rattle.ps_caps.proofs.Placed.{all_same, field_same}
use Rattle.ps_caps.proofs.sorted.fields.Goals as goal

pub returns : goal.returns
returns c =
    sorted_by_text (λ (f : Field). f.var) _ _ c.in_ok-sort_by.ensures.sorted c.in_ok-sort_by.ensures.stable (λ a r f' k. search rules)
    ∙ ap (sort_by field_le) (c.into_vec-sorted.ensures ∙ all_same _ (λ x y k. field_same x y k) _ _ c.in_ok-clone.ensures.cases)
