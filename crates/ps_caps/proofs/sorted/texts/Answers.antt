use Rattle.std.proofs.Common.{◌≡◌, ◌∙◌, ap, rules}
use Rattle.std.specs.Cmp.Lexicographic.{slice_cmp, nat_list_cmp_total}
use Rattle.std.specs.Ordering.{nat_cmp}
use Rattle.ps_types.specs.Ordered.{sorted_texts}
use Rattle.ps_caps.proofs.Orders.{sorted_cmp}
use Rattle.ps_caps.proofs.Placed.{all_same}
use Rattle.ps_caps.proofs.sorted.texts.Goals as goal

pub returns : goal.returns
returns c =
    sorted_cmp (slice_cmp nat_cmp) nat_list_cmp_total _ _ c.in_ok-sort.ensures.sorted c.in_ok-sort.ensures.stable
    ∙ ap sorted_texts (c.into_vec-sorted.ensures ∙ all_same _ (λ x y k. search rules) _ _ c.in_ok-clone.ensures.cases)
