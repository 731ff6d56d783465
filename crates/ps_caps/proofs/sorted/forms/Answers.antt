use Rattle.std.proofs.Common.{◌≡◌, ◌∙◌, ap, map, rules}
use Rattle.ps_types.specs.CapString.{form_le}
use Rattle.ps_caps.specs.declared.forms.TypedForm.{TypedForm}
use Rattle.ps_caps.specs.Typed.{seen}
use Rattle.ps_caps.proofs.Kept.{map_sort}
use Rattle.ps_caps.proofs.Orders.{sorted_by_text}
use Rattle.ps_caps.proofs.sorted.forms.Goals as goal

pub returns : goal.returns
returns c =
    ap (map seen) (sorted_by_text (λ (t : TypedForm). t.kind) _ _ c.in_ok-sort_by.ensures.sorted c.in_ok-sort_by.ensures.stable (λ a r f' k. search rules))
    ∙ map_sort seen form_le c.args.forms.now.items
