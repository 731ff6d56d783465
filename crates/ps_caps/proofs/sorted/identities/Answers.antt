use Rattle.std.proofs.Common.{◌≡◌, ◌∙◌, ap, rules}
use Rattle.ps_types.specs.CapString.{identity_cmp, identity_le}
use Rattle.ps_types.specs.Ordered.{sort_by}
use Rattle.ps_caps.proofs.Formed.{identity_total}
use Rattle.ps_caps.proofs.Orders.{sorted_cmp}
use Rattle.ps_caps.proofs.Placed.{all_same}
use Rattle.ps_caps.proofs.sorted.identities.Goals as goal

pub returns : goal.returns
returns c =
    sorted_cmp identity_cmp identity_total _ _ c.in_ok-sort.ensures.sorted c.in_ok-sort.ensures.stable
    ∙ ap (sort_by identity_le) (c.into_vec-sorted.ensures ∙ all_same _ (λ x y k. search rules) _ _ c.in_ok-clone.ensures.cases)
